-- Rectangles of offsets, and the rows of a window that eight rows of results look at.
use Rattle.std.specs.Prelude.{◌≡◌, ℕ, ℤ, zero, suc, pos, ◌+ℤ◌, ◌+◌, ◌*◌, ◌<◌, ◌≤◌, ◌&&◌, List, [], ◌++◌, length, nat_le, nat_lt, cond, slice_index_or}
use Rattle.mw_model.specs.PlanSteps.{ranked}
use Rattle.mw_model.specs.Rasters.{Sight}
use Rattle.mw_model.specs.declared.offsets.Offset.{Offset}
use Rattle.mw_model.specs.declared.offsets.Rect.{Rect}
use Rattle.mw_rank_counts.specs.mw_rank.Ranks.{levels_under}
use Rattle.mw_rank_counts.specs.mw_rank.Runs.{offsets_from}
use Rattle.mw_rank_rows.specs.declared.rectangle.Rectangle.{Rectangle}
use Rattle.mw_rank_rows.specs.declared.group.Shown.{Shown}

-- the first offset of a row of the rectangle
abbrev pub row_start : Rectangle → ℕ → Offset
row_start t r = record { dx = t.dx; dy = t.dy +ℤ pos r }

-- the offsets of its first rows
abbrev pub offsets_of_rows : Rectangle → ℕ → List Offset
offsets_of_rows t zero = []
offsets_of_rows t (suc n) = offsets_of_rows t n ++ offsets_from (row_start t n) t.columns

-- the rectangle has these offsets
pub record IsRectangle (t : Rectangle) (offsets : List Offset) : Type 0 where
  pub some : 1 ≤ t.columns
  pub is : offsets_of_rows t t.rows ≡ offsets

-- lane j sees a row of samples where 7 rows or more, and fewer than those of the element and 7, lie from row 0 to j rows on
pub record AreLaneMarks (rows : ℕ) (marks : List ℕ) : Type 0 where
  pub size : length marks ≡ rows + 14
  pub each : (p : ℕ) → p < rows + 14 → slice_index_or marks p 0 ≡ cond (nat_le 7 p && nat_lt p (rows + 7)) 1 0

-- of so many rows from `top` on, a window of that height has some, counted from its own first row
pub record AreRowsShown (top : ℤ) (count height : ℕ) (s : Shown) : Type 0 where
  pub within : s.skip + s.rows ≤ count
  pub inside : s.first + s.rows ≤ height
  pub at : (i : ℕ) → i < s.rows → top +ℤ pos (s.skip + i) ≡ pos (s.first + i)
  pub early : (q r : ℕ) → q < s.skip → r < height → top +ℤ pos q ≡ pos r → ⊥
  pub late : (q r : ℕ) → s.skip + s.rows ≤ q → q < count → r < height → top +ℤ pos q ≡ pos r → ⊥

-- eight rows, by rows, that have the ranks of eight rows of results
abbrev pub AreRanks : {A : Type 0} → (A → ℕ) → ℕ → Sight A → List Offset → Rect → List A → Type 0
AreRanks {A} level k sight element place made = (r q : ℕ) (e : A) → r < 8 → q < place.width
    → level (slice_index_or made (r * place.width + q) e) ≡ ranked k (levels_under level sight element (place.x + q) (place.y + r))
