-- Sheets of lines: the extrema of rows of tall boxes, from each row to the end of a block and from the beginning of one (own).
use Rattle.std.specs.Prelude.{◌≡◌, ℕ, ◌+◌, ◌*◌, ◌<◌, ◌≤◌, ◌^◌, pos, negsuc, ◌≤ℤ◌, List, length, slice_index_or}
use Rattle.mw_model.specs.declared.limits.TheConstants.{FAR_LIMIT}
use Rattle.mw_model.specs.Windows.{View}
use Rattle.mw_line.specs.Cells.{merged_cell}
use Rattle.mw_line_lent.specs.declared.boxes.Boxes.{Boxes}
use Rattle.mw_line_lent.specs.Bests.{IsBestWith}
use Rattle.mw_line_lent.specs.Boxes.{IsSuited, wide_of}
use Rattle.mw_line_lent.specs.Parts.{IsOverlap}

-- these boxes are made over a place of so many columns, and there is a neutral line as long as the part of theirs that it has
pub record AreTall {A : Type 0} (width columns : ℕ) (b : Boxes) (n : A) (blank : List A) : Type 0 where
  pub suited : IsSuited width b
  pub part : IsOverlap b.column (wide_of b) columns b.part
  pub low : b.height < 2 ^ 32
  pub near : negsuc FAR_LIMIT ≤ℤ b.row
  pub far : b.row ≤ℤ pos FAR_LIMIT
  pub room : b.part.count ≤ length blank
  pub neutral : (i : ℕ) → i < b.part.count → slice_index_or blank i n ≡ n

-- there are lines for three more than a box has rows, of which the first one and the last one are neutral
pub record IsSheet {A : Type 0} (n : A) (b : Boxes) (cells : List A) : Type 0 where
  pub size : length cells ≡ (b.down + 3) * b.part.count
  pub first : (i : ℕ) → i < b.part.count → slice_index_or cells i n ≡ n
  pub last : (i : ℕ) → i < b.part.count → slice_index_or cells ((b.down + 2) * b.part.count + i) n ≡ n

-- the cells from a place on are the extrema of the neutral one and what the view has in each column, from one row on and before another
abbrev pub HasRowRun : {A : Type 0} → (A → A → A) → A → View A → Boxes → ℕ → ℕ → ℕ → List A → Type 0
HasRowRun merge n w b from to at cells = (i : ℕ) → i < b.part.count → IsBestWith merge n (merged_cell merge n w b.column b.row (b.part.behind + i)) from to (slice_index_or cells (at + i) n)

-- from its line y on the sheet has the tails of the block that begins with row `first`, and behind them that of no row
abbrev pub HasTails : {A : Type 0} → (A → A → A) → A → View A → Boxes → ℕ → ℕ → List A → Type 0
HasTails merge n w b first y cells = (k : ℕ) → y ≤ k → k ≤ b.down → HasRowRun merge n w b (first + k) (first + b.down) ((k + 2) * b.part.count) cells

-- what line y needs, which is this one of its block: the tails from there on, and the head before them
pub record HasParts {A : Type 0} (merge : A → A → A) (n : A) (w : View A) (b : Boxes) (y at : ℕ) (cells : List A) : Type 0 where
  pub first : ℕ
  pub place : first + at ≡ y
  pub tails : HasTails merge n w b first at cells
  pub head : HasRowRun merge n w b (first + b.down) (y + b.down) (at * b.part.count) cells
