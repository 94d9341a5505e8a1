use Rattle.std.proofs.Common.{ℕ, ◌≡◌, ◌+◌, ◌-◌, ◌<◌, ◌≤◌, length, get_or}
use Rattle.mw_rank_rows.specs.Lanes.{Counts}
use Rattle.mw_rank_rows.proofs.Fronts.{IsReached}
use Rattle.mw_rank_rows.proofs.search.scan.Given as goal

abbrev pub invariant-loop-n : goal.invariant-loop-n
invariant-loop-n l = record {
  from : l.front.level ≤ l.at;
  lanes : length l.sums ≡ 8;
  size : length l.levels ≡ 8;
  inside : (levels : ℕ) (u : ℕ → ℕ → ℕ) → Counts levels u l.counts l.front.level l.front.below → l.at < levels;
  sums : (levels : ℕ) (u : ℕ → ℕ → ℕ) → Counts levels u l.counts l.front.level l.front.below → (j : ℕ) → j < 8 → get_or l.sums j 0 ≡ u (l.at + 1) j;
  reached : (levels : ℕ) (u : ℕ → ℕ → ℕ) → Counts levels u l.counts l.front.level l.front.below → (j : ℕ) → j < 8 → IsReached u (get_or l.n j 0) j l.at (get_or l.levels j 0);
}

abbrev pub decreases-loop-n : goal.decreases-loop-n
decreases-loop-n l = length l.counts - l.at
