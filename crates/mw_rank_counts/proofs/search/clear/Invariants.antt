use Rattle.std.proofs.Common.{◌≡◌, ℕ, ◌<◌, get_or}
use Rattle.mw_rank_counts.proofs.search.clear.Given as goal

abbrev pub invariant-loop-i : goal.invariant-loop-i
invariant-loop-i g l = (i : ℕ) → i < l.i → g.P.Pixel.level (get_or l.found i g.P.Pixel.TOP) ≡ 0
