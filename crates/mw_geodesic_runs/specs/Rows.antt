-- The runs of a row, and which of the runs of a set they are.
use Rattle.std.specs.Prelude.{◌≡◌, ℕ, ◌+◌, ◌<◌, ◌≤◌, List, length, slice_index, slice_index_or}
use Rattle.mw_model.specs.Pictures.{Picture}
use Rattle.mw_geodesic_runs.specs.declared.runs.Run.{Run}
use Rattle.mw_geodesic_runs.specs.declared.spans.Span.{Span}
use Rattle.mw_geodesic_runs.specs.Runs.{run_numbered, AreInOrder, RunsBefore}

-- so many runs of the set stand in the rows above row y
pub record AreCutAbove (f : Picture) (y n : ℕ) : Type 0 where
  pub runs : List Run
  pub cut : RunsBefore f 0 y runs
  pub many : length runs ≡ n

-- the runs of a row are those of all runs from number n on
pub record AreRowRunsFrom (runs : List Run) (n : ℕ) (row : List Run) : Type 0 where
  pub within : n + length row ≤ length runs
  pub same : (k : ℕ) → k < length row → run_numbered runs (n + k) ≡ run_numbered row k

-- all runs of the set
pub record HasRuns (f : Picture) : Type 0 where
  pub runs : List Run
  pub cut : RunsBefore f 0 f.height runs

-- ---- two rows that follow one another

-- runs in rows that follow one another have places in columns that are no further apart than the reach
pub record Overlap (reach : ℕ) (a b : Run) : Type 0 where
  pub left : b.first < a.end + reach
  pub right : a.first < b.end + reach

-- of all runs those from a number on are these of a row and then these of row y below it
pub record AreTwoRows (runs : List Run) (y above : ℕ) (upper lower : List Run) : Type 0 where
  pub order : AreInOrder runs
  pub upper_from : AreRowRunsFrom runs above upper
  pub lower_from : AreRowRunsFrom runs (above + length upper) lower
  pub far : (p : ℕ) → p < above → (run_numbered runs p).row + 1 < y
  pub near : (p : ℕ) → above ≤ p → p < above + length upper → (run_numbered runs p).row + 1 ≡ y
  pub here : (p : ℕ) → above + length upper ≤ p → p < above + length upper + length lower → (run_numbered runs p).row ≡ y
  pub later : (p : ℕ) → above + length upper + length lower ≤ p → p < length runs → y < (run_numbered runs p).row

-- ---- runs that are held row by row

-- a span without places, which stands behind the end of a list
abbrev pub no_span : Span
no_span = record { first = 0; end = 0 }

-- the span with this number
abbrev pub span_numbered : List Span → ℕ → Span
span_numbered spans k = slice_index_or spans k no_span

-- the run begins and ends as the span does
pub record IsSpanOf (r : Run) (s : Span) : Type 0 where
  pub first : r.first ≡ s.first
  pub end : r.end ≡ s.end

-- the spans of the runs of a row are added
pub record AreKept (old : List Span) (row : List Run) (new : List Span) : Type 0 where
  pub size : length new ≡ length old + length row
  pub before : (k : ℕ) → k < length old → span_numbered new k ≡ span_numbered old k
  pub added : (k : ℕ) → k < length row → IsSpanOf (run_numbered row k) (span_numbered new (length old + k))

-- the spans are those of the runs of the rows above row y, and the starts tell how many there are above each of these rows, and above row y
pub record AreHeldAbove (f : Picture) (y : ℕ) (spans : List Span) (starts : List ℕ) : Type 0 where
  pub rows : length starts ≡ y + 1
  pub cut : (v : ℕ) → v ≤ y → AreCutAbove f v (slice_index starts v)
  pub size : slice_index starts y ≡ length spans
  pub are : (runs : List Run) → RunsBefore f 0 f.height runs → (k : ℕ) → k < length spans → IsSpanOf (run_numbered runs k) (span_numbered spans k)
