use Rattle.std.proofs.Common.{◌≡◌, ℕ, ◌+◌, ◌*◌, ◌<◌, sum_by}
use Rattle.std.specs.List.{AllByRecursion}
use Rattle.mw_rank_bits.proofs.moves.push_times.Given as goal

abbrev pub invariant-loop-i : goal.invariant-loop-i
invariant-loop-i l = record {
  sum : (f : ℕ → ℕ) → sum_by f l.places.items ≡ sum_by f l.fn.places.items + l._i * f l.place;
  below : (n : ℕ) → l.place < n → AllByRecursion (λ (s : ℕ). s < n) l.fn.places.items → AllByRecursion (λ (s : ℕ). s < n) l.places.items;
}
