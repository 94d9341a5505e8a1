-- Which elements are small enough that their rows are laid out around a tile as words.
use Rattle.std.specs.Prelude.{ℤ, pos, negsuc, ◌+ℤ◌, ◌≤ℤ◌}
use Rattle.mw_offset.specs.mw_element_runs.declared.runs.Extent.{Extent}

-- at most 1024 places within 32768 of the origin
pub record AreNear (first last : ℤ) : Type 0 where
  pub first_near : negsuc 32767 ≤ℤ first
  pub ordered : first ≤ℤ last
  pub last_near : last ≤ℤ pos 32768
  pub few : last ≤ℤ (first +ℤ pos 1023)

-- the element has few columns and rows near its origin
pub record ExtentIsNear (e : Extent) : Type 0 where
  pub columns : AreNear e.left e.right
  pub rows : AreNear e.top e.bottom
