use Rattle.std.proofs.Common.{ℕ}
use Rattle.mw_rank_rows.specs.Lanes.{Counts}
use Rattle.mw_rank_rows.proofs.search.lower.Given as goal

abbrev pub invariant-loop-level : goal.invariant-loop-level
invariant-loop-level l = (levels : ℕ) (u : ℕ → ℕ → ℕ) → Counts levels u l.counts l.fn.front.level l.fn.front.below → Counts levels u l.counts l.level l.below

abbrev pub decreases-loop-level : goal.decreases-loop-level
decreases-loop-level l = l.level
