-- Rectangles of cells, whatever the cells are.
use Rattle.std.specs.Prelude.{ℕ, ◌+◌, ◌*◌, ◌&&◌, List, ℤ, pos, negsuc, ◌+ℤ◌, nat_lt, cond, Option, None, slice_get}
use Rattle.std.specs.List.{filter_map}
use Rattle.mw_model.specs.declared.offsets.Offset.{Offset}

-- The cells stand by rows from the top, and in each row from the left.
pub record Raster (A : Type 0) : Type 0 where
  pub width : ℕ
  pub height : ℕ
  pub cells : List A

-- the raster of these parts
abbrev pub raster : {A : Type 0} → ℕ → ℕ → List A → Raster A
raster width height cells = record { width = width; height = height; cells = cells }

-- what is seen of a source: the cell in a column and row of the plane, where there is one
abbrev pub Sight : Type 0 → Type 0
Sight A = ℤ → ℤ → Option A

-- the cell at a place of the plane, where the frame has that place
abbrev pub cell_at : {A : Type 0} → Raster A → Sight A
cell_at f (pos x) (pos y) = cond (nat_lt x f.width && nat_lt y f.height) (slice_get f.cells (y * f.width + x)) None
cell_at f (pos x) (negsuc y) = None
cell_at f (negsuc x) y = None

-- the cells that are seen under the element placed at column x of row y
abbrev pub seen_under : {A : Type 0} → Sight A → List Offset → ℕ → ℕ → List A
seen_under sight element x y = filter_map (λ (b : Offset). sight (pos x +ℤ b.dx) (pos y +ℤ b.dy)) element
