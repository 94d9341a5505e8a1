use Rattle.std.proofs.Common.{◌∙◌, ℕ, List, length, refl, ap, sym, subst, arith}
use Rattle.mw_geodesic.specs.Labels.{IsLabelling}
use Rattle.mw_geodesic_labels.specs.declared.regions.Region.{Region}
use Rattle.mw_geodesic_labels.specs.Regions.{AreRegionsOf}
use Rattle.mw_geodesic_labels.proofs.Results.{told_by}
use Rattle.mw_c_arrays.specs.Arrays.{set_picture}
use Rattle.mw_c_geodesic.proofs.regions.regions_plain.Goals as goal

pub put_regions-requires : goal.put_regions-requires
put_regions-requires c =
    let size = ap length c.deref-2.ensures.value in
    let all = c.in_ok-regions.ensures.size in
    omega arith

pub returns-clause-made : goal.returns-clause-made
returns-clause-made c =
    let e = c.args.around.now in
    let f = set_picture c.args.f in
    let found = c.in_ok-found.found in
    let regions = c.in_ok-regions.regions.items in
    let read = c.deref-2.ensures.value in
    let labelling = subst (λ (t : List ℕ). IsLabelling e f found.count t) (sym c.deref.ensures.value) c.in_ok-found.ensures in
    let are : AreRegionsOf e f c.deref-2.result.now = subst (λ (t : List Region). AreRegionsOf e f t) (sym read) (c.in_ok-regions.ensures.told e f refl refl labelling) in
    told_by e f found.count c.args.out.now c.put_regions.new.out c.deref-2.result.now are (ap length read ∙ c.in_ok-regions.ensures.size) c.put_regions.ensures.written c.put_regions.ensures.short
