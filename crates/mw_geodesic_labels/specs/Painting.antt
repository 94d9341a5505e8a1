-- Numbers written over runs.
use Rattle.std.specs.Prelude.{◌≡◌, ℕ, zero, suc, ◌+◌, ◌-◌, ◌*◌, ◌<◌, ◌≤◌, List, length, slice_index, slice_set}
use Rattle.mw_geodesic_runs.specs.declared.runs.Run.{Run}
use Rattle.mw_geodesic_runs.specs.declared.spans.Span.{Span}
use Rattle.mw_geodesic_runs.specs.Runs.{run_numbered}
use Rattle.mw_geodesic_runs.specs.Rows.{span_numbered}

-- the numbers with one number at so many places from a place on
abbrev pub painted : ℕ → ℕ → ℕ → List ℕ → List ℕ
painted start zero number xs = xs
painted start (suc n) number xs = slice_set (painted start n number xs) (start + n) number

-- the numbers with those of the first n runs at their places, in rows of this width
abbrev pub painted_runs : ℕ → List Run → List ℕ → ℕ → List ℕ → List ℕ
painted_runs width runs numbers zero xs = xs
painted_runs width runs numbers (suc n) xs =
    painted ((run_numbered runs n).row * width + (run_numbered runs n).first) ((run_numbered runs n).row * width + (run_numbered runs n).end - ((run_numbered runs n).row * width + (run_numbered runs n).first)) (slice_index numbers n) (painted_runs width runs numbers n xs)

-- each run has its places in rows of this width, of so many places in all, and none before it ends behind its first place
pub record RunsFit (width size : ℕ) (runs : List Run) : Type 0 where
  pub order : (i : ℕ) → i < length runs → (run_numbered runs i).first ≤ (run_numbered runs i).end
  pub room : (i : ℕ) → i < length runs → (run_numbered runs i).row * width + (run_numbered runs i).end ≤ size
  pub apart : (i j : ℕ) → i < j → j < length runs → (run_numbered runs i).row * width + (run_numbered runs i).end ≤ (run_numbered runs j).row * width + (run_numbered runs j).first

-- the run of a row that begins and ends as the span does
abbrev pub run_of : ℕ → Span → Run
run_of y s = record { row = y; first = s.first; end = s.end }

-- runs of which something is known, held row by row: those of row y have the numbers from its start up to that of the next row
pub record HeldRuns (Known : List Run → Type 0) (height : ℕ) (spans : List Span) (starts numbers : List ℕ) : Type 0 where
  pub runs : List Run
  pub known : Known runs
  pub numbered : length numbers ≡ length runs
  pub spanned : length spans ≡ length runs
  pub rows : length starts ≡ height + 1
  pub begins : slice_index starts 0 ≡ 0
  pub ends : slice_index starts height ≡ length runs
  pub rises : (y : ℕ) → y < height → slice_index starts y ≤ slice_index starts (y + 1)
  pub within : (y : ℕ) → y ≤ height → slice_index starts y ≤ length runs
  pub is : (y k : ℕ) → y < height → slice_index starts y ≤ k → k < slice_index starts (y + 1) → run_numbered runs k ≡ run_of y (span_numbered spans k)

-- the places at which a run begins and ends, in rows of this width
abbrev pub begin_of : ℕ → Run → ℕ
begin_of w r = r.row * w + r.first

abbrev pub stop_of : ℕ → Run → ℕ
stop_of w r = r.row * w + r.end
