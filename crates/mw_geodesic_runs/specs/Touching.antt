-- Runs that touch, in rows that follow one another.
use Rattle.std.specs.Prelude.{◌≡◌, ℕ, ◌+◌, ◌<◌, ◌≤◌, ◌⊎◌, List, length}
use Rattle.mw_geodesic.specs.declared.neighbours.Neighbours.{Neighbours}
use Rattle.mw_geodesic.specs.declared.neighbours.Neighbours.TheVariants.{Four, Eight}
use Rattle.mw_geodesic_runs.specs.declared.runs.Run.{Run}
use Rattle.mw_geodesic_runs.specs.Runs.{run_numbered}
use Rattle.mw_geodesic_runs.specs.Forests.{IsForest, Respects}

-- how many columns further than above and below they reach in the next row
abbrev pub columns_reached : Neighbours → ℕ
columns_reached Four = 0
columns_reached Eight = 1

-- the second run lies in the row below, and the two have places in columns that are no further apart than the reach
pub record Touches (reach : ℕ) (a b : Run) : Type 0 where
  pub below : b.row ≡ a.row + 1
  pub left : b.first < a.end + reach
  pub right : a.first < b.end + reach

-- moved down by a row, the first run ends before the second
abbrev pub EndsFirst : Run → Run → Type 0
EndsFirst a b = (a.row + 1 < b.row) ⊎ ((a.row + 1 ≡ b.row) × (a.end < b.end))

-- runs that touch have one colour, where the upper is before number i or the lower before number j
pub record Agree (reach : ℕ) (runs : List Run) (i j : ℕ) (f : ℕ → ℕ) : Type 0 where
  pub one : (p q : ℕ) → p < length runs → q < length runs → (p < i) ⊎ (q < j) → Touches reach (run_numbered runs p) (run_numbered runs q) → f p ≡ f q

-- the colourings that respect the forest are those in which runs that touch have one colour, where the upper is before number i or the lower before number j
pub record AreUnited (reach : ℕ) (runs : List Run) (i j : ℕ) (parent : List ℕ) : Type 0 where
  pub forest : IsForest parent
  pub size : length parent ≡ length runs
  pub ahead : i ≤ j
  pub back : (f : ℕ → ℕ) → Respects parent f → Agree reach runs i j f
  pub on : (f : ℕ → ℕ) → Agree reach runs i j f → Respects parent f

-- the colourings that respect the forest are those in which runs that touch have one colour
pub record IsForestOf (reach : ℕ) (runs : List Run) (parent : List ℕ) : Type 0 where
  pub forest : IsForest parent
  pub size : length parent ≡ length runs
  pub back : (f : ℕ → ℕ) → Respects parent f → Agree reach runs 0 (length runs) f
  pub on : (f : ℕ → ℕ) → Agree reach runs 0 (length runs) f → Respects parent f
