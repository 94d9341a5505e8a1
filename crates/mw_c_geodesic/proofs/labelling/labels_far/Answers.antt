use Rattle.std.proofs.Common.{ℕ, List, length, ap, sym, subst, arith, ◌∙◌}
use Rattle.mw_geodesic.specs.Labels.{IsLabelling}
use Rattle.mw_c_arrays.specs.Arrays.{set_picture}
use Rattle.mw_c_geodesic.proofs.Measured.{labels_fill}
use Rattle.mw_c_geodesic.proofs.labelling.labels_far.Goals as goal

pub copy_from_slice-requires : goal.copy_from_slice-requires
copy_from_slice-requires c =
    let found = c.in_ok-found.found in
    let fill = labels_fill c.args.f c.args.around.now found.count found.labels.items (length c.args.out.now) c.requires.image c.in_ok-found.ensures c.requires.room in
    omega (arith, ap length c.deref.ensures.value, fill)

pub returns-clause-made : goal.returns-clause-made
returns-clause-made c =
    subst (λ (t : List ℕ). IsLabelling c.args.around.now (set_picture c.args.f) c.in_ok-found.found.count t) (sym (c.copy_from_slice.ensures.after ∙ c.deref.ensures.value)) c.in_ok-found.ensures
