-- Rectangles of a frame (own).
use Rattle.std.specs.Prelude.{◌≡◌, ℕ, ◌+◌, ◌<◌, List, ℤ, pos, ◌+ℤ◌}
use Rattle.std.specs.List.{AllByRecursion}
use Rattle.mw_model.specs.declared.offsets.Offset.{Offset}
use Rattle.mw_model.specs.declared.offsets.Rect.{Rect}
use Rattle.mw_model.specs.Rectangles.{rect, Holds}

-- the rectangle of a whole frame of this width and height
abbrev pub whole_frame : ℕ → ℕ → Rect
whole_frame width height = rect 0 0 width height

-- the rectangle has this place if a frame of this width and height has it
abbrev pub Reaches : Rect → ℕ → ℕ → ℤ → ℤ → Type 0
Reaches r width height column row = (x y : ℕ) → column ≡ pos x → row ≡ pos y → x < width → y < height → Holds r x y

-- at each place of the tile the rectangle has what the frame has under the element
abbrev pub ReachesAll : Rect → ℕ → ℕ → List Offset → Rect → Type 0
ReachesAll r width height element tile =
    (x y : ℕ) → x < tile.width → y < tile.height → AllByRecursion (λ (b : Offset). Reaches r width height (pos (tile.x + x) +ℤ b.dx) (pos (tile.y + y) +ℤ b.dy)) element
