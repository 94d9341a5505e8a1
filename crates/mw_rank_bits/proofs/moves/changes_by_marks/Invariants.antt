use Rattle.std.proofs.Common.{◌+◌, ◌*◌}
use Rattle.mw_rank_bits.specs.Moves.{HasChanged}
use Rattle.mw_rank_bits.proofs.moves.changes_by_marks.Given as goal

abbrev pub invariant-loop-t : goal.invariant-loop-t
invariant-loop-t l = HasChanged l.marks l.sheet.columns l.sheet.wide (l.sheet.rows * l.sheet.wide + l.sheet.columns) l.t l.entered.items l.left.items
