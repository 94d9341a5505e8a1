-- The runs of a set with the numbers of their components.
use Rattle.std.specs.Prelude.{◌≡◌, ℕ, ◌+◌, ◌<◌, ◌≤◌, List, length, slice_index}
use Rattle.mw_model.specs.declared.offsets.Offset.{Offset}
use Rattle.mw_model.specs.Pictures.{Picture, IsSet}
use Rattle.mw_geodesic.specs.Neighbours.{ElementCovers}
use Rattle.mw_geodesic.specs.Paths.{AreConnected}
use Rattle.mw_geodesic_runs.specs.declared.runs.Run.{Run}
use Rattle.mw_geodesic_runs.specs.Runs.{run_numbered, HasPlace, RunsBefore}
use Rattle.mw_geodesic_runs.specs.declared.spans.Span.{Span}
use Rattle.mw_geodesic_runs.specs.Rows.{HasRuns, AreHeldAbove}
use Rattle.mw_geodesic_runs.specs.Forests.{StandsBefore}

-- Runs have one number exactly where a path within the set joins their places; each number from 1 up to the count stands at some run, and none before the one less.
pub record AreComponents (element : List Offset) (f : Picture) (runs : List Run) (numbers : List ℕ) (count : ℕ) : Type 0 where
  pub set : IsSet f
  pub cut : RunsBefore f 0 f.height runs
  pub size : length numbers ≡ length runs
  pub some : (i : ℕ) → i < length runs → 1 ≤ slice_index numbers i
  pub most : (i : ℕ) → i < length runs → slice_index numbers i ≤ count
  pub near : (i j x y u v : ℕ) → i < length runs → j < length runs → HasPlace (run_numbered runs i) x y → HasPlace (run_numbered runs j) u v → ElementCovers element x y u v → slice_index numbers i ≡ slice_index numbers j
  pub joined : (i j x y u v : ℕ) → i < length runs → j < length runs → HasPlace (run_numbered runs i) x y → HasPlace (run_numbered runs j) u v → slice_index numbers i ≡ slice_index numbers j → AreConnected element f x y u v
  pub steps : (i : ℕ) → i < length runs → 2 ≤ slice_index numbers i → (k : ℕ) → k + 1 ≡ slice_index numbers i → StandsBefore numbers i k
  pub top : 1 ≤ count → StandsBefore numbers (length runs) count

-- The spans are those of all runs, held row by row, and the numbers those of their components.
pub record AreRunSpans (element : List Offset) (f : Picture) (spans : List Span) (starts numbers : List ℕ) (count : ℕ) : Type 0 where
  pub some : HasRuns f
  pub held : AreHeldAbove f f.height spans starts
  pub each : (runs : List Run) → RunsBefore f 0 f.height runs → AreComponents element f runs numbers count
