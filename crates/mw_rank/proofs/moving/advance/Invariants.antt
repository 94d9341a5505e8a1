use Rattle.mw_model.specs.Windows.{seen_at}
use Rattle.mw_rank.specs.Tallies.{Tallies}
use Rattle.mw_rank.proofs.Moves.{moved}
use Rattle.mw_rank.proofs.moving.advance.Given as goal

abbrev pub invariant-loop-run : goal.invariant-loop-run
invariant-loop-run g l = Tallies g.P.Pixel.top_level l.histogram (moved g.P.Pixel.level (seen_at l.window) l.runs l.run-index l.x l.y)
