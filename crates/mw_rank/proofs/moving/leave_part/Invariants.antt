use Rattle.std.proofs.Common.{ℕ, List, ◌++◌, map, drop}
use Rattle.mw_rank.specs.Tallies.{Tallies}
use Rattle.mw_rank.proofs.moving.leave_part.Given as goal

abbrev pub invariant-loop-sample : goal.invariant-loop-sample
invariant-loop-sample g l = (ns : List ℕ) → Tallies g.P.Pixel.top_level l.initial.histogram (map g.P.Pixel.level l.samples ++ ns) → Tallies g.P.Pixel.top_level l.histogram (map g.P.Pixel.level (drop l.sample-index l.samples) ++ ns)
