use Rattle.std.proofs.Common.{◌≡◌, ◌-◌, ℕ, List, subst, IfOk}
use Rattle.std.specs.Prelude.{slice_index}
use Rattle.mw_model.specs.Pictures.{Picture, sample}
use Rattle.mw_geodesic.specs.Labels.{label_at, AreAreas}
use Rattle.mw_geodesic.proofs.LargeComponents.{mark_low, drawn_by_labels}
use Rattle.mw_geodesic.proofs.openings.area_opening_of_set.Goals as goal

pub redraw-requires : goal.redraw-requires
redraw-requires c =
    let f = c.args.set.now in
    record { bounded = λ picture x y p q. mark_low c.args.least (sample f x y) (slice_index c.deref-3.result.now (label_at f c.deref-2.result.now x y - 1)) f.maxval c.requires.set.maxval }

pub returns : goal.returns
returns c =
    let sizes = c.in_ok-sizes.sizes.items in
    let count = c.in_ok-found.found.count in
    let are : AreAreas c.in_ok-found.found.labels.items count sizes = subst (λ (t : List ℕ). AreAreas t count sizes) c.deref.ensures.value c.in_ok-sizes.ensures in
    let whole = drawn_by_labels c.args.around.now c.args.least c.args.set.now count c.in_ok-found.found.labels.items sizes _ _ c.requires.set c.in_ok-found.ensures are c.deref-2.ensures.value c.deref-3.ensures.value in
    subst (λ (t : Picture). IfOk c.redraw.result (λ r. r ≡ t)) whole c.redraw.ensures
