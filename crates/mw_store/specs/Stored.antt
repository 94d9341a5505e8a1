-- What a store shows, and what it keeps beside it.
use Rattle.std.specs.Prelude.{ℕ, ◌≡◌, ◌<◌, ◌≤◌, ◌&&◌, Bool, true, false, not, if◌then◌else◌, List, Option, Some, None, length, count_by, slice_index_or}
use Rattle.std.specs.List.{AllByRecursion}
use Rattle.mw_model.specs.declared.limits.TheConstants.{ENTRY_LIMIT}
use Rattle.mw_model.specs.declared.shapes.Shape.{Shape}
use Rattle.mw_model.specs.declared.submissions.Submission.{Submission}
use Rattle.mw_model.specs.declared.calls.Outcome.{Outcome}
use Rattle.mw_model.specs.Elements.{Figure}
use Rattle.mw_model.specs.Values.{Value, ElementValue, shape_of_figure, value_at, tickets}
use Rattle.mw_model.specs.Refusals.{Table, outcome_at, submission_at, is_element, is_pending, is_released}
use Rattle.mw_model.specs.Stands.{is_wanted}
use Rattle.mw_store.specs.mw_model_laws.MachineLaws.{NoneAwaitsDead}
use Rattle.mw_store.specs.Wanted.{wanted_by}
use Rattle.mw_store.specs.Waiting.{Waiting, KnowsWaiting}

-- The table, and the value that is kept of each ticket, if one is.
pub record Stored : Type 0 where
  pub table : Table
  pub kept : List (Option Value)

-- the inputs of each entry stand before it
abbrev pub InputsBelow : List Submission → Type 0
InputsBelow submissions = (t : ℕ) → t < length submissions → AllByRecursion (λ i. i < t) (tickets (submission_at submissions t).inputs)

-- the four columns are of one length
pub record StoreIsWhole (s : Stored) : Type 0 where
  pub submissions : length s.table.submissions ≡ length s.table.names
  pub outcomes : length s.table.outcomes ≡ length s.table.names
  pub kept : length s.kept ≡ length s.table.names
  pub small : length s.table.names ≤ ENTRY_LIMIT
  pub inputs : InputsBelow s.table.submissions

-- the ticket is released, and no pending entry has it as an input
abbrev pub is_spent : Table → ℕ → Bool
is_spent w t = is_released (outcome_at w.outcomes t) && not (is_wanted w t)

-- nothing is kept of a ticket that is spent, and what is kept of all others stays
abbrev pub DropsSpent : Table → List (Option Value) → List (Option Value) → Type 0
DropsSpent w old new = (t : ℕ) → value_at new t ≡ (if is_spent w t then None else value_at old t)

-- an element of this shape stands there
abbrev pub IsKeptElement : Option Value → Shape → Type 0
IsKeptElement v s = (b : Figure) × (v ≡ Some (ElementValue b)) × (s ≡ shape_of_figure b)

-- an entry of an element's shape is not pending, and its element is kept unless it is released
abbrev pub KeepsElement : Submission → Outcome → Option Value → Type 0
KeepsElement e o v = is_element e.shape ≡ true → (is_pending o ≡ false) × (is_released o ≡ false → IsKeptElement v e.shape)

-- so it is with each entry
abbrev pub KeepsElements : Stored → Type 0
KeepsElements s = (t : ℕ) → t < length s.table.names → KeepsElement (submission_at s.table.submissions t) (outcome_at s.table.outcomes t) (value_at s.kept t)

-- What spares a pass over the entries: how many pending ones have each ticket as an input, which wait for it, and how many are pending. Nothing is kept of a ticket that is spent, no input of a pending entry is dead, and each element is kept that was not released.
pub record IsTracked (s : Stored) (counts : List ℕ) (lists : List Waiting) (left : ℕ) : Type 0 where
  pub whole : StoreIsWhole s
  pub counted : length counts ≡ length s.table.names
  pub listed : length lists ≡ length s.table.names
  pub pending : left ≡ count_by is_pending s.table.outcomes
  pub wanted : (t : ℕ) → slice_index_or counts t 0 ≡ wanted_by s.table.submissions s.table.outcomes t
  pub waiting : KnowsWaiting s.table.submissions s.table.outcomes lists
  pub spent : (t : ℕ) → is_released (outcome_at s.table.outcomes t) ≡ true → wanted_by s.table.submissions s.table.outcomes t ≡ 0 → value_at s.kept t ≡ None
  pub alive : NoneAwaitsDead s.table
  pub elements : KeepsElements s
