-- Places of two rows of results, of which some are those of both.
use Rattle.std.specs.Prelude.{◌≡◌, ◌⊎◌, ℕ, ◌+◌, ◌*◌, ◌≤◌, List, Contains}
use Rattle.mw_offset_lent.specs.declared.pairs.Split.{Split}
use Rattle.mw_offset_lent.specs.declared.shifts.Shift.{Shift}

-- The places of a row are those of the rest, and the shared ones as many places back as the row is ahead.
pub record IsCover (both own all : List ℕ) (ahead : ℕ) : Type 0 where
  pub shared : (p : ℕ) → Contains both p → (q : ℕ) × (Contains all q) × (p ≡ q + ahead)
  pub rest : (p : ℕ) → Contains own p → Contains all p
  pub whole : (p : ℕ) → Contains all p → (Contains both (p + ahead)) ⊎ (Contains own p)

-- both rows have all places, and there are blocks of results beside the columns by which the lower row is shifted
pub record IsSplit (width : ℕ) (s : Split) : Type 0 where
  pub upper : IsCover s.shared.now s.upper.now s.all.now 0
  pub lower : IsCover s.shared.now s.lower.now s.all.now s.ahead
  pub ahead : s.ahead + s.left ≡ s.wide + s.right
  pub side : (s.left ≡ 0) ⊎ (s.right ≡ 0)
  pub left : s.left ≤ 8
  pub right : s.right ≤ 8
  pub lanes : 4 ≤ width
  pub room : 2 * width + 8 ≤ s.width
  pub within : s.width ≤ s.wide

-- a shift to one side, of no more than 8 columns
pub record IsShift (s : Shift) : Type 0 where
  pub side : (s.left ≡ 0) ⊎ (s.right ≡ 0)
  pub left : s.left ≤ 8
  pub right : s.right ≤ 8
