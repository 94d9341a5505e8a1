-- One side of a box, along one axis, and what a tile can see of a window through it.
use Rattle.std.specs.Prelude.{ℕ, ◌+◌, ◌^◌, ◌<◌, ◌≤◌, ℤ, pos, ◌+ℤ◌, ◌≤ℤ◌, ◌<ℤ◌}
use Rattle.mw_model.specs.Rectangles.{span}

-- From `side` places of a tile, the places of a box from a to b that come before `skipped`, and those from
-- `skipped + count` on, lead past the `len` places of a window.
pub record IsSeenSide (tile side first len : ℕ) (a b : ℤ) (skipped count : ℕ) : Type 0 where
  pub before : (i p : ℕ) → i < side → p < skipped → (pos (tile + i) +ℤ (a +ℤ pos p)) <ℤ pos first
  pub behind : (i p : ℕ) → i < side → skipped + count ≤ p → p < span a b → pos (first + len) ≤ℤ (pos (tile + i) +ℤ (a +ℤ pos p))
  pub within : 0 < count → skipped + count ≤ span a b
  pub few : skipped ≤ 2 ^ 34
  pub small : count ≤ len + side
