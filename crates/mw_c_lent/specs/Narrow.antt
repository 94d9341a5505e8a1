-- Rectangles which are made where rows stand (own).
use Rattle.std.specs.Prelude.{ℕ, pos, ◌-ℤ◌, ◌<ℤ◌, ◌≤ℤ◌}
use Rattle.mw_model.specs.declared.offsets.OffsetBox.{OffsetBox}
use Rattle.mw_line_lent.specs.Near.{IsAround}
use Rattle.mw_c_lent.specs.declared.rules.Rule.{Rule}
use Rattle.mw_c_lent.specs.declared.rules.Rule.TheVariants as rule

-- the rectangle has the place that it is put on, 256 columns at most, and so many rows at most beside one
pub record IsNarrow (beyond : ℕ) (box : OffsetBox) : Type 0 where
  pub left : box.x0 ≤ℤ pos 0
  pub right : pos 0 ≤ℤ box.x1
  pub above : box.y0 ≤ℤ pos 0
  pub below : pos 0 ≤ℤ box.y1
  pub narrow : (box.x1 -ℤ box.x0) <ℤ pos 256
  pub low : (box.y1 -ℤ box.y0) ≤ℤ pos beyond

-- the rectangle has the place that it is put on, 9 columns at most and 18 rows at most
pub record IsSmall (box : OffsetBox) : Type 0 where
  pub around : IsAround box
  pub narrow : (box.x1 -ℤ box.x0) <ℤ pos 9
  pub low : (box.y1 -ℤ box.y0) <ℤ pos 18

-- the rule is an extremum under a rectangle of at most so many rows beside one
abbrev pub IsNarrowRule : ℕ → Rule → Type 0
IsNarrowRule beyond (rule.LeastBox b) = IsNarrow beyond b
IsNarrowRule beyond (rule.GreatestBox b) = IsNarrow beyond b
IsNarrowRule beyond r = ⊥
