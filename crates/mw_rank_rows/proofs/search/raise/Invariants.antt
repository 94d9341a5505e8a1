use Rattle.std.proofs.Common.{ℕ, ◌≡◌, ◌+◌, ◌-◌, ◌<◌, ◌⊎◌, length, get_or}
use Rattle.mw_rank_rows.specs.Lanes.{Counts}
use Rattle.mw_rank_rows.proofs.search.raise.Given as goal

abbrev pub invariant-loop-below : goal.invariant-loop-below
invariant-loop-below l = record {
  counts : (levels : ℕ) (u : ℕ → ℕ → ℕ) → Counts levels u l.counts l.fn.front.level l.fn.front.below → Counts levels u l.counts l.level l.below;
  few : ((j : ℕ) → j < 8 → (get_or l.fn.front.below j 0 < get_or l.n j 0) ⊎ (l.fn.front.level ≡ 0)) → (j : ℕ) → j < 8 → (get_or l.below j 0 < get_or l.n j 0) ⊎ (l.level ≡ 0);
  lanes : length l.next ≡ 8;
  next : (levels : ℕ) (u : ℕ → ℕ → ℕ) → Counts levels u l.counts l.fn.front.level l.fn.front.below → (j : ℕ) → j < 8 → get_or l.next j 0 ≡ u (l.level + 1) j;
}

abbrev pub decreases-loop-below : goal.decreases-loop-below
decreases-loop-below l = length l.counts - l.level
