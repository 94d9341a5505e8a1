use Rattle.std.proofs.Common.{arith, pos, ◌+◌, ◌+ℤ◌, get_or}
use Rattle.std.proofs.lemmas.List.{get_or_default}
use Rattle.mw_model.specs.declared.offsets.Offset.{Offset}
use Rattle.mw_model.specs.Windows.{seen_at}
use Rattle.mw_offset.proofs.Merges.{fold_more_given}
use Rattle.mw_offset.proofs.offsets.combine_offsets.Goals as goal

pub loop-offset-preserved : goal.loop-offset-preserved
loop-offset-preserved g c =
    let none : Offset = record { dx = pos 0; dy = pos 0 } in
    let offsets = c.args.offsets.now in
    let i = c.loop-offset.offset-index in
    let b = get_or offsets i none in
    λ x d lt. fold_more_given g.E.Extremum.merge (λ (t : Offset). seen_at c.args.window.now (pos (c.args.column + x) +ℤ t.dx) (pos c.args.row +ℤ t.dy)) _ offsets i b (get_or c.loop-offset.out x d) _
    (omega arith) (get_or_default offsets i none b (omega arith)) (c.loop-offset.invariant x d (omega arith)) (c.combine_offset.ensures x d (omega arith))
