use Rattle.std.proofs.Common.{◌≡◌, ◌∙◌, ℕ, List, length, refl, ap, sym, subst, arith}
use Rattle.mw_geodesic.specs.Labels.{IsLabelling}
use Rattle.mw_geodesic_labels.specs.declared.regions.Region.{Region}
use Rattle.mw_geodesic_labels.specs.Regions.{AreRegionsOf}
use Rattle.mw_geodesic_labels.proofs.Results.{told_by}
use Rattle.mw_c_arrays.specs.Arrays.{set_picture}
use Rattle.mw_c_geodesic.proofs.Measured.{labels_fill}
use Rattle.mw_c_geodesic.proofs.measuring.measured_far.Goals as goal

pub put_regions_and_labels-requires-clause-few : goal.put_regions_and_labels-requires-clause-few
put_regions_and_labels-requires-clause-few c =
    let size = ap length c.deref-2.ensures.value in
    let all = c.in_ok-regions.ensures.size in
    omega arith

pub put_regions_and_labels-requires-clause-size : goal.put_regions_and_labels-requires-clause-size
put_regions_and_labels-requires-clause-size c =
    let found = c.in_ok-found.found in
    let fill = labels_fill c.args.f c.args.around.now found.count found.labels.items (length c.args.out.now) c.requires.image c.in_ok-found.ensures c.requires.room in
    omega (arith, ap length c.deref-3.ensures.value, fill)

pub returns-clause-made : goal.returns-clause-made
returns-clause-made c =
    let e = c.args.around.now in
    let f = set_picture c.args.f in
    let found = c.in_ok-found.found in
    let put = c.put_regions_and_labels in
    let size : length c.deref-2.result.now ≡ found.count = ap length c.deref-2.ensures.value ∙ c.in_ok-regions.ensures.size in
    let labelling = subst (λ (t : List ℕ). IsLabelling e f found.count t) (sym c.deref.ensures.value) c.in_ok-found.ensures in
    let are : AreRegionsOf e f c.deref-2.result.now = subst (λ (t : List Region). AreRegionsOf e f t) (sym c.deref-2.ensures.value) (c.in_ok-regions.ensures.told e f refl refl labelling) in
    record {
      told = told_by e f found.count c.args.rows.now put.new.rows c.deref-2.result.now are size put.ensures.written put.ensures.short;
      labels = λ le. subst (λ (t : List ℕ). IsLabelling e f found.count t) (sym (put.ensures.labels (omega arith) ∙ c.deref-3.ensures.value)) c.in_ok-found.ensures;
      unlabelled = λ less. put.ensures.unlabelled (omega arith);
    }
