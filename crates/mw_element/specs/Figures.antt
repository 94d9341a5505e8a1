-- What an element shows, and what its parts compute.
use Rattle.std.specs.Prelude.{ℕ, ℤ, pos, ◌+ℤ◌, ◌*ℤ◌, ◌<ℤ◌, ◌≤ℤ◌, neg_ℤ, ◌↔◌, Bool, List, [], ◌∷◌, reverse, max, if◌then◌else◌}
use Rattle.std.specs.List.{AllByRecursion, Contains}
use Rattle.mw_model.specs.declared.offsets.Offset.{Offset}
use Rattle.mw_model.specs.declared.offsets.OffsetBox.{OffsetBox}
use Rattle.mw_model.specs.declared.offsets.Reach.{Reach}
use Rattle.mw_model.specs.Elements.{Figure}
use Rattle.mw_model.specs.Rectangles.{nonnegative}

-- the element of these sides and offsets
abbrev pub figure : ℕ → ℕ → List Offset → Figure
figure width height offsets = record { width = width; height = height; offsets = offsets }

-- the offset turned round
abbrev pub turned : Offset → Offset
turned b = record { dx = neg_ℤ b.dx; dy = neg_ℤ b.dy }

-- the reach that goes as far as the offset too
abbrev pub reach_grown : Reach → Offset → Reach
reach_grown reach b = record {
  left = max reach.left (nonnegative (neg_ℤ b.dx));
  right = max reach.right (nonnegative b.dx);
  up = max reach.up (nonnegative (neg_ℤ b.dy));
  down = max reach.down (nonnegative b.dy);
}

-- the first box lies in the second
pub record LiesIn (inner outer : OffsetBox) : Type 0 where
  pub left : outer.x0 ≤ℤ inner.x0
  pub right : inner.x1 ≤ℤ outer.x1
  pub top : outer.y0 ≤ℤ inner.y0
  pub bottom : inner.y1 ≤ℤ outer.y1

-- the offset lies in the rectangle
pub record InBox (box : OffsetBox) (b : Offset) : Type 0 where
  pub left : box.x0 ≤ℤ b.dx
  pub right : b.dx ≤ℤ box.x1
  pub top : box.y0 ≤ℤ b.dy
  pub bottom : b.dy ≤ℤ box.y1

-- the offsets are exactly those of the rectangle
abbrev pub FillsBox : OffsetBox → List Offset → Type 0
FillsBox box offsets = (b : Offset) → Contains offsets b ↔ InBox box b

-- where an offset stands among others by rows: rows go before columns, which are fewer than 1024
abbrev pub row_key : Offset → ℤ
row_key b = (pos 1024 *ℤ b.dy) +ℤ b.dx

-- each offset stands before all that follow it
abbrev pub OffsetsRise : List Offset → Type 0
OffsetsRise [] = Unit {0}
OffsetsRise (b ∷ bs) = AllByRecursion (λ c. row_key b <ℤ row_key c) bs × OffsetsRise bs

-- the offsets by rows, where those of a reflected element stand from the last to the first
abbrev pub by_rows : Bool → List Offset → List Offset
by_rows is_turned offsets = if is_turned then reverse offsets else offsets
