use Rattle.std.proofs.Common.{◌≡◌, ℕ, ◌+◌}
use Rattle.std.specs.List.{Contains}
use Rattle.mw_offset_lent.proofs.places.shared_of.Given as goal

abbrev pub invariant-loop-place : goal.invariant-loop-place
invariant-loop-place l = record {
  ahead : (p : ℕ) → Contains l.shared.items p → (q : ℕ) × (Contains l.all q) × (p ≡ q + l.ahead);
  within : (p : ℕ) → Contains l.shared.items p → Contains l.all p;
}
