use Rattle.std.proofs.Common.{◌≡◌, ℕ, ◌+◌, ◌-◌, ◌*◌, ◌/◌, ◌<◌, length}
use Rattle.mw_rank_bits.specs.Numbers.{bits_at, number_at}
use Rattle.mw_rank_bits.specs.Walks.{is_below, HasColumn}
use Rattle.mw_rank_bits.proofs.walk.walk_down.Given as goal

abbrev pub invariant-loop-y : goal.invariant-loop-y
invariant-loop-y l = record {
  number : (q : ℕ) → q < 128 → number_at (λ (a : ℕ). a) (length l.fn.planes / 2) l.planes q ≡ l.rows.start + bits_at l.cells l.places.seen.now (64 * ((l.y - 1) * l.rows.wide + l.j) + q);
  column : HasColumn (λ q y. is_below (length l.fn.planes / 2) l.rows.start l.cells l.places.seen.now (64 * (y * l.rows.wide + l.j) + q)) (2 * l.rows.pairs) l.j l.y l.fn.out l.out;
}
