use Rattle.mw_rank_lent.specs.Middles.{PutsMedians}
use Rattle.mw_rank_lent.proofs.blocks.put_rows.Given as goal

abbrev pub invariant-loop-row : goal.invariant-loop-row
invariant-loop-row g l = PutsMedians g.P.Pixel.level l.lent l.square l.sides.y l.row l.at l.initial.out l.out
