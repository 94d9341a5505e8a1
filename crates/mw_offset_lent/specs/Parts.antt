-- The part of a run of cells that a side of a place has (own).
use Rattle.std.specs.Prelude.{◌≡◌, ℕ, ◌+◌, ◌-◌, ◌<◌, ◌≤◌, ℤ, pos, ◌+ℤ◌, ◌≤ℤ◌, ◌<ℤ◌}
use Rattle.mw_offset_lent.specs.declared.parts.Part.{Part}

-- which cells of a run of `long` cells from a number on have numbers of a side of so many cells
pub record IsPartOf (first : ℤ) (long size : ℕ) (p : Part) : Type 0 where
  pub within : p.behind + p.count ≤ long
  pub fits : p.ahead + p.count ≤ size
  pub inside : (x : ℕ) → p.behind ≤ x → x < p.behind + p.count → first +ℤ pos x ≡ pos (p.ahead + (x - p.behind))
  pub before : (x : ℕ) → x < p.behind → (first +ℤ pos x) <ℤ pos 0
  pub after : (x : ℕ) → p.behind + p.count ≤ x → x < long → pos size ≤ℤ (first +ℤ pos x)
