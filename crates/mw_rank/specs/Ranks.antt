-- Ranks of what is seen under an element.
use Rattle.std.specs.Prelude.{◌≡◌, ℕ, ℤ, ◌+◌, ◌*◌, ◌<◌, List, map, length, pos, ◌+ℤ◌, None, slice_index_or}
use Rattle.std.specs.Option.{option_to_list}
use Rattle.mw_model.specs.declared.offsets.Offset.{Offset}
use Rattle.mw_model.specs.declared.offsets.Rect.{Rect}
use Rattle.mw_model.specs.PlanSteps.{ranked}
use Rattle.mw_model.specs.Rasters.{Raster, Sight, raster, cell_at, seen_under}
use Rattle.mw_model.specs.Windows.{View}

-- the levels that are seen under the element placed at column x of row y
abbrev pub levels_under : {A : Type 0} → (A → ℕ) → Sight A → List Offset → ℕ → ℕ → List ℕ
levels_under level sight element x y = map level (seen_under sight element x y)

-- the level at an offset from column x of row y, where something is seen there
abbrev pub levels_at : {A : Type 0} → (A → ℕ) → Sight A → Offset → ℕ → ℕ → List ℕ
levels_at level sight b x y = map level (option_to_list (sight (pos x +ℤ b.dx) (pos y +ℤ b.dy)))

-- at each place of the tile, of the levels that are seen under the element in rising order, number min(k, m) of m
pub record IsRank {A : Type 0} (level : A → ℕ) (k : ℕ) (sight : Sight A) (element : List Offset) (tile : Rect) (r : Raster A) : Type 0 where
  pub width : r.width ≡ tile.width
  pub height : r.height ≡ tile.height
  pub size : length r.cells ≡ tile.height * tile.width
  pub cells : (x y : ℕ) (d : A) → x < tile.width → y < tile.height
      → level (slice_index_or r.cells (y * tile.width + x) d) ≡ ranked k (levels_under level sight element (tile.x + x) (tile.y + y))

-- the list has got one cell more for each of the first n columns, with these levels
pub record GainsRow {A : Type 0} (level : A → ℕ) (value : ℕ → ℕ) (n : ℕ) (old new : List A) : Type 0 where
  pub size : length new ≡ length old + n
  pub kept : (p : ℕ) (d : A) → p < length old → slice_index_or new p d ≡ slice_index_or old p d
  pub made : (x : ℕ) (d : A) → x < n → level (slice_index_or new (length old + x) d) ≡ value x

-- the list has the first n rows of w cells each, with these levels
pub record HasRows {A : Type 0} (level : A → ℕ) (value : ℕ → ℕ → ℕ) (w n : ℕ) (cells : List A) : Type 0 where
  pub size : length cells ≡ n * w
  pub made : (x j : ℕ) (d : A) → x < w → j < n → level (slice_index_or cells (j * w + x) d) ≡ value x j

-- the list has got the ranks of n places of row y, from column x on
abbrev pub GainsRanks : {A : Type 0} → (A → ℕ) → ℕ → Sight A → List Offset → ℕ → ℕ → ℕ → List A → List A → Type 0
GainsRanks level k sight element x y n old new = GainsRow level (λ i. ranked k (levels_under level sight element (x + i) y)) n old new

-- the list has the ranks of the first n rows of the tile
abbrev pub HasRankRows : {A : Type 0} → (A → ℕ) → ℕ → Sight A → List Offset → Rect → ℕ → List A → Type 0
HasRankRows level k sight element tile n cells = HasRows level (λ x y. ranked k (levels_under level sight element (tile.x + x) (tile.y + y))) tile.width n cells

-- the list has the ranks of all rows of the tile
abbrev pub HasRanks : {A : Type 0} → (A → ℕ) → ℕ → Sight A → List Offset → Rect → List A → Type 0
HasRanks level k sight element tile cells = HasRankRows level k sight element tile tile.height cells

-- the view has no cells in that row, which is counted from its first one
abbrev pub HasNoRow : {A : Type 0} → View A → ℤ → Type 0
HasNoRow w row = (column : ℤ) → cell_at (raster w.place.width w.place.height w.cells) column row ≡ None
