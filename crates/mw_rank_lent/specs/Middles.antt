-- Squares with their origin in the middle, and where they are made (own).
use Rattle.std.specs.Prelude.{◌≡◌, ℕ, ◌+◌, ◌*◌, ◌<◌, ◌≤◌, List, length, pos, ◌+ℤ◌, neg_ℤ, slice_index_or}
use Rattle.mw_model.specs.declared.offsets.Offset.{Offset}
use Rattle.mw_model.specs.declared.offsets.Rect.{Rect}
use Rattle.mw_model.specs.PlanSteps.{ranked}
use Rattle.mw_model.specs.Windows.{View, seen_at}
use Rattle.mw_rank_medians.specs.mw_rank.Ranks.{levels_under, HasRows}
use Rattle.mw_rank_medians.specs.Squares.{IsMedian, offset_rows}
use Rattle.mw_rank_lent.specs.declared.squares.Square.{Square}

-- a square with its origin in the middle, and the number of its median
pub record IsMiddle (s : Square) : Type 0 where
  pub median : IsMedian s.side s.k
  pub side : s.side ≡ 2 * s.reach + 1
  pub left : pos s.reach +ℤ s.first.dx ≡ pos 0
  pub above : pos s.reach +ℤ s.first.dy ≡ pos 0

-- its offsets
abbrev pub square_offsets : Square → List Offset
square_offsets s = offset_rows s.first s.side s.side

-- the offsets of the square that reaches so far about its origin, row after row
abbrev pub offsets_about : ℕ → List Offset
offsets_about reach = offset_rows (record { dx = neg_ℤ (pos reach); dy = neg_ℤ (pos reach) }) (2 * reach + 1) (2 * reach + 1)

-- they are these, and number k is their median, one for which there is a network
pub record IsMedianAbout (reach k : ℕ) (offsets : List Offset) : Type 0 where
  pub median : IsMedian (2 * reach + 1) k
  pub square : offsets ≡ offsets_about reach

-- the tile has whole rows of the place, which has all rows that the square reaches; and there are vectors of this width down the tile,
-- and across it between the sides
pub record FitsMedians (width reach : ℕ) (place tile : Rect) : Type 0 where
  pub left : tile.x ≡ place.x
  pub across : tile.width ≡ place.width
  pub above : place.y + reach ≤ tile.y
  pub below : tile.y + tile.height + reach ≤ place.y + place.height
  pub wide : width + 2 * reach ≤ place.width
  pub high : width ≤ tile.height

-- the median at column x of row y of the frame
abbrev pub median_at : {A : Type 0} → (A → ℕ) → View A → Square → ℕ → ℕ → ℕ
median_at level w s x y = ranked s.k (levels_under level (seen_at w) (square_offsets s) x y)

-- the view has these rows, and those that the squares on them reach
pub record AreInner {A : Type 0} (w : View A) (s : Square) (y n : ℕ) : Type 0 where
  pub above : w.place.y + s.reach ≤ y
  pub below : y + n + s.reach ≤ w.place.y + w.place.height
  pub wide : 2 * s.reach < w.place.width

-- cells from a place on have these values, and those before it are as they were
pub record PutsCells {A : Type 0} (level : A → ℕ) (value : ℕ → ℕ) (at n : ℕ) (old new : List A) : Type 0 where
  pub size : length new ≡ length old
  pub kept : (p : ℕ) (d : A) → p < at → slice_index_or new p d ≡ slice_index_or old p d
  pub made : (i : ℕ) (d : A) → i < n → level (slice_index_or new (at + i) d) ≡ value i

-- the same of n rows of w cells each
pub record PutsRows {A : Type 0} (level : A → ℕ) (value : ℕ → ℕ → ℕ) (w n at : ℕ) (old new : List A) : Type 0 where
  pub size : length new ≡ length old
  pub kept : (p : ℕ) (d : A) → p < at → slice_index_or new p d ≡ slice_index_or old p d
  pub made : (x j : ℕ) (d : A) → x < w → j < n → level (slice_index_or new (at + (j * w + x)) d) ≡ value x j

-- the first n rows of w cells each have these values
abbrev pub AreRowsMade : {A : Type 0} → (A → ℕ) → (ℕ → ℕ → ℕ) → ℕ → ℕ → List A → Type 0
AreRowsMade {A} level value w n cells = (x j : ℕ) (d : A) → x < w → j < n → level (slice_index_or cells (j * w + x) d) ≡ value x j

-- cells from a place on are the medians of rows of the view's place, and those before it are as they were
abbrev pub PutsMedians : {A : Type 0} → (A → ℕ) → View A → Square → ℕ → ℕ → ℕ → List A → List A → Type 0
PutsMedians level w s y n at old new = PutsRows level (λ x j. median_at level w s (w.place.x + x) (y + j)) w.place.width n at old new

-- cells are the medians of rows of the view's place
abbrev pub HasMedians : {A : Type 0} → (A → ℕ) → View A → Square → ℕ → ℕ → List A → Type 0
HasMedians level w s y n cells = HasRows level (λ x j. median_at level w s (w.place.x + x) (y + j)) w.place.width n cells

-- the cells of a tile with whole rows of the view's place are its medians
pub record HasTile {A : Type 0} (level : A → ℕ) (w : View A) (s : Square) (tile : Rect) (cells : List A) : Type 0 where
  pub left : tile.x ≡ w.place.x
  pub wide : tile.width ≡ w.place.width
  pub medians : HasMedians level w s tile.y tile.height cells
