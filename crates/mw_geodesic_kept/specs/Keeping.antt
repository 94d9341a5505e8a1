-- Which components are kept, by marks of their numbers, and what is then left of a set.
use Rattle.std.specs.Prelude.{◌≡◌, ℕ, ◌+◌, ◌*◌, ◌<◌, ◌≤◌, ◌⊎◌, Bool, true, false, List, length, slice_index, slice_index_or}
use Rattle.mw_model.specs.Pictures.{Picture, sample}
use Rattle.mw_model.specs.Laws.{SameShape}
use Rattle.mw_model.specs.declared.offsets.Offset.{Offset}
use Rattle.mw_geodesic.specs.Geodesics.{reconstruction}
use Rattle.mw_geodesic.specs.Reconstructions.{border_over, border_cleared}
use Rattle.mw_geodesic.specs.Neighbours.{IsPlace}
use Rattle.mw_geodesic_runs.specs.declared.runs.Run.{Run}
use Rattle.mw_geodesic_runs.specs.declared.spans.Span.{Span}
use Rattle.mw_geodesic_runs.specs.Runs.{run_numbered, HasPlace}
use Rattle.mw_geodesic_labels.specs.Painting.{HeldRuns}

-- the mark of a number; behind the end of the list there is none
abbrev pub mark_of : List Bool → ℕ → Bool
mark_of marks n = slice_index_or marks n false

-- the runs lie in a frame of these sides, and their numbers are below a bound
pub record LieInFrame (width height bound : ℕ) (runs : List Run) (numbers : List ℕ) : Type 0 where
  pub size : length numbers ≡ length runs
  pub some : (i : ℕ) → i < length runs → (run_numbered runs i).first < (run_numbered runs i).end
  pub across : (i : ℕ) → i < length runs → (run_numbered runs i).end ≤ width
  pub down : (i : ℕ) → i < length runs → (run_numbered runs i).row < height
  pub bounded : (i : ℕ) → i < length runs → slice_index numbers i < bound

-- the same of runs that are held row by row
abbrev pub LieHeld : ℕ → ℕ → ℕ → List Span → List ℕ → List ℕ → Type 0
LieHeld width height bound spans starts numbers = HeldRuns (λ runs. LieInFrame width height bound runs numbers) height spans starts numbers

-- a pixel of the set stands in the run
pub record HasPixelOf (f : Picture) (r : Run) : Type 0 where
  pub at : ℕ
  pub from : r.first ≤ at
  pub to : at < r.end
  pub is : sample f at r.row ≡ 1

-- the run has a place at the border of a frame of these sides
abbrev pub IsAtEdge : ℕ → ℕ → Run → Type 0
IsAtEdge width height r = (r.row ≡ 0) ⊎ ((r.row + 1 ≡ height) ⊎ ((r.first ≡ 0) ⊎ (r.end ≡ width)))

-- one of the first n runs has this number, and is one of those that are asked for
pub record HasAsked (Asked : Run → Type 0) (runs : List Run) (numbers : List ℕ) (n k : ℕ) : Type 0 where
  pub at : ℕ
  pub before : at < n
  pub number : slice_index numbers at ≡ k
  pub asked : Asked (run_numbered runs at)

-- of the first n runs the numbers of those that are asked for are marked, and no others
pub record AreMarked (Asked : Run → Type 0) (runs : List Run) (numbers : List ℕ) (n : ℕ) (marks : List Bool) : Type 0 where
  pub back : (k : ℕ) → mark_of marks k ≡ true → HasAsked Asked runs numbers n k
  pub on : (i : ℕ) → i < n → Asked (run_numbered runs i) → mark_of marks (slice_index numbers i) ≡ true

-- in those of the first n runs whose numbers have the wanted mark the new picture is as the set, and elsewhere as the old one
pub record RunsWritten (set : Picture) (runs : List Run) (numbers : List ℕ) (marks : List Bool) (wanted : Bool) (n : ℕ) (old new : Picture) : Type 0 where
  pub shape : SameShape new old
  pub size : length new.samples ≡ new.height * new.width
  pub inside : (i x y : ℕ) → i < n → mark_of marks (slice_index numbers i) ≡ wanted → HasPlace (run_numbered runs i) x y → sample new x y ≡ sample set x y
  pub outside : (x y : ℕ) → IsPlace old x y → ((i : ℕ) → i < n → mark_of marks (slice_index numbers i) ≡ wanted → HasPlace (run_numbered runs i) x y → ⊥) → sample new x y ≡ sample old x y

-- of the set the second picture has the runs whose numbers have the wanted mark
pub record IsKeptPart (f : Picture) (runs : List Run) (numbers : List ℕ) (marks : List Bool) (wanted : Bool) (g : Picture) : Type 0 where
  pub shape : SameShape g f
  pub size : length g.samples ≡ g.height * g.width
  pub kept : (i x y : ℕ) → i < length runs → mark_of marks (slice_index numbers i) ≡ wanted → HasPlace (run_numbered runs i) x y → sample g x y ≡ 1
  pub dropped : (i x y : ℕ) → i < length runs → (mark_of marks (slice_index numbers i) ≡ wanted → ⊥) → HasPlace (run_numbered runs i) x y → sample g x y ≡ 0
  pub unset : (x y : ℕ) → IsPlace f x y → sample f x y ≡ 0 → sample g x y ≡ 0

-- the components of the set that touch the border of the frame, or those that do not
abbrev pub touching_or_not : List Offset → Bool → Picture → Picture
touching_or_not around true f = reconstruction around f (border_over 0 f)
touching_or_not around false f = border_cleared around f
