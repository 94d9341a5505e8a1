use Rattle.std.proofs.Common.{drop}
use Rattle.mw_model.specs.Windows.{seen_at}
use Rattle.mw_rank.specs.Ranks.{levels_under}
use Rattle.mw_rank.specs.Runs.{element_of}
use Rattle.mw_rank.specs.Tallies.{Tallies}
use Rattle.mw_rank.proofs.moving.leave_all.Given as goal

abbrev pub invariant-loop-run : goal.invariant-loop-run
invariant-loop-run g l = Tallies g.P.Pixel.top_level l.histogram (levels_under g.P.Pixel.level (seen_at l.window) (element_of (drop l.run-index l.runs)) l.x l.y)
