use Rattle.mw_tile.proofs.Rows.{HasCut}
use Rattle.mw_tile.proofs.cuts.copy_rows.Given as goal

abbrev pub invariant-loop-y : goal.invariant-loop-y
invariant-loop-y g l = HasCut l.plane l.part l.rect l.y
