-- What holds of each state that a run reaches, what a step may change, and what a kill means (own).
use Rattle.std.specs.Prelude.{find, ℕ, ◌≡◌, ◌≢◌, ◌↔◌, ◌<◌, ◌≤◌, ◌⊎◌, Bool, true, false, List, ◌++◌, [], length, slice_index_or, Option, Some, None, option_map, Contains}
use Rattle.std.specs.List.{AllByRecursion}
use Rattle.mw_model.specs.declared.names.Name.{Name}
use Rattle.mw_model.specs.declared.shapes.Shape.{Shape}
use Rattle.mw_model.specs.declared.shapes.Shape.TheVariants as shape
use Rattle.mw_model.specs.declared.operations.Op.{Op}
use Rattle.mw_model.specs.declared.operations.Op.TheVariants as op
use Rattle.mw_model.specs.declared.operations.FlatOp.TheVariants as flat
use Rattle.mw_model.specs.declared.operations.GranOp.TheVariants as gran
use Rattle.mw_model.specs.declared.submissions.Command.TheVariants as command
use Rattle.mw_model.specs.declared.submissions.Submission.{Submission}
use Rattle.mw_model.specs.declared.calls.Outcome.{Outcome}
use Rattle.mw_model.specs.declared.calls.Outcome.TheVariants as outcome
use Rattle.mw_model.specs.declared.calls.Call.{Call}
use Rattle.mw_model.specs.declared.calls.Call.TheVariants as call
use Rattle.mw_model.specs.declared.calls.LogItem.{LogItem}
use Rattle.mw_model.specs.declared.calls.LogItem.TheVariants as item
use Rattle.mw_model.specs.declared.limits.TheConstants.{ENTRY_LIMIT}
use Rattle.mw_model.specs.Names.{name_of}
use Rattle.mw_model.specs.Pictures.{IsImage}
use Rattle.mw_model.specs.Elements.{IsFigure}
use Rattle.mw_model.specs.Values.{Value, ImageValue, ElementValue, CurveValue, tickets, value_at, shape_of_picture, shape_of_figure}
use Rattle.mw_model.specs.Refusals.{Table, ticket_of, outcome_at, submission_at, shape_at, is_dead, is_there, is_element}
use Rattle.mw_model.specs.Machine.{Machine, values}

-- the name of an entry
abbrev pub name_at : List Name → ℕ → Name
name_at names t = slice_index_or names t (name_of [])

-- the tickets of an entry's inputs, in argument order
abbrev pub inputs_at : List Submission → ℕ → List ℕ
inputs_at submissions t = tickets (submission_at submissions t).inputs

-- the shape of what stands under a ticket
abbrev pub shape_of_value : Value → Shape
shape_of_value (ImageValue f) = shape_of_picture f
shape_of_value (ElementValue b) = shape_of_figure b
shape_of_value (CurveValue v) = shape.Curve (length v)

-- ---- what holds of each state

-- there is one submission, one outcome and one place for a payload with each name
pub record AreOfOneLength (m : Machine) : Type 0 where
  pub submissions : length m.table.submissions ≡ length m.table.names
  pub outcomes : length m.table.outcomes ≡ length m.table.names
  pub payloads : length m.payloads ≡ length m.table.names

-- a name leads to the entry that has it, so no two entries have one name
abbrev pub NamesLead : Table → Type 0
NamesLead w = (t : ℕ) → t < length w.names → ticket_of w.names (name_at w.names t) ≡ Some t

-- the inputs of an entry stand before it
abbrev pub InputsStandBefore : Table → Type 0
InputsStandBefore w = (t : ℕ) → t < length w.names → AllByRecursion (λ i. i < t) (inputs_at w.submissions t)

-- no input of a pending entry is dead
abbrev pub NoneAwaitsDead : Table → Type 0
NoneAwaitsDead w =
    (t : ℕ) → t < length w.names → outcome_at w.outcomes t ≡ outcome.Pending → AllByRecursion (λ i. is_dead (outcome_at w.outcomes i) ≡ false) (inputs_at w.submissions t)

-- the inputs of an entry that is done, or released since, are done, or released since
abbrev pub DoneFromDone : Table → Type 0
DoneFromDone w =
    (t : ℕ) → t < length w.names → is_there (outcome_at w.outcomes t) ≡ true → AllByRecursion (λ i. is_there (outcome_at w.outcomes i) ≡ true) (inputs_at w.submissions t)

-- each ticket has a value, of the shape that the table tells
abbrev pub ValuesHaveShapes : Machine → Type 0
ValuesHaveShapes m =
    (t : ℕ) → t < length m.table.names → option_map shape_of_value (value_at (values m) t) ≡ Some (shape_at m.table.submissions t)

-- an image or an element within its limits
abbrev pub WithinLimits : Option Value → Type 0
WithinLimits (Some (ImageValue f)) = IsImage f
WithinLimits (Some (ElementValue b)) = IsFigure b
WithinLimits v = Unit {0}

-- the values of all tickets are within their limits
abbrev pub ValuesWithinLimits : Machine → Type 0
ValuesWithinLimits m = (t : ℕ) → t < length m.table.names → WithinLimits (value_at (values m) t)

-- an entry that failed by s has s among its inputs, and s is dead
abbrev pub FailedByDead : Table → Type 0
FailedByDead w =
    (t s : ℕ) → t < length w.names → outcome_at w.outcomes t ≡ outcome.Input s → Contains (inputs_at w.submissions t) s × (is_dead (outcome_at w.outcomes s) ≡ true)

-- what is given is done at once, and may be released
abbrev pub GivenAreThere : Table → Type 0
GivenAreThere w =
    (t : ℕ) → t < length w.names → (submission_at w.submissions t).command ≡ command.Given → is_there (outcome_at w.outcomes t) ≡ true

-- elements are given, and no command makes one
abbrev pub ElementsAreGiven : Table → Type 0
ElementsAreGiven w =
    (t : ℕ) → t < length w.names → is_element (shape_at w.submissions t) ≡ true → (submission_at w.submissions t).command ≡ command.Given

-- a command has no payload
abbrev pub CommandsAreBare : Machine → Type 0
CommandsAreBare m =
    (t : ℕ) (o : Op) → t < length m.table.names → (submission_at m.table.submissions t).command ≡ command.Run o → value_at m.payloads t ≡ None

-- all of this
pub record IsSound (m : Machine) : Type 0 where
  pub lengths : AreOfOneLength m
  pub small : length m.table.names ≤ ENTRY_LIMIT
  pub names : NamesLead m.table
  pub inputs : InputsStandBefore m.table
  pub pending : NoneAwaitsDead m.table
  pub done : DoneFromDone m.table
  pub failed : FailedByDead m.table
  pub given : GivenAreThere m.table
  pub elements : ElementsAreGiven m.table
  pub bare : CommandsAreBare m
  pub shapes : ValuesHaveShapes m
  pub limits : ValuesWithinLimits m

-- ---- what a step may change

-- the second list goes on from the first
abbrev pub GoesOn : {X : Type 0} → List X → List X → Type 0
GoesOn {X} first second = (more : List X) × (second ≡ first ++ more)

-- an outcome stays, or was pending, or was done and is released
abbrev pub MayBecome : Outcome → Outcome → Type 0
MayBecome old new = (new ≡ old) ⊎ ((old ≡ outcome.Pending) ⊎ ((old ≡ outcome.Done) × (new ≡ outcome.Released)))

-- entries are added, and of those that were there only outcomes change, each once, and from done to released
pub record GrowsTo (m n : Machine) : Type 0 where
  pub names : GoesOn m.table.names n.table.names
  pub submissions : GoesOn m.table.submissions n.table.submissions
  pub payloads : GoesOn m.payloads n.payloads
  pub values : GoesOn (values m) (values n)
  pub outcomes : (t : ℕ) → t < length m.table.names → MayBecome (outcome_at m.table.outcomes t) (outcome_at n.table.outcomes t)

-- ---- what a kill means

-- the first dead input of an entry, in argument order
abbrev pub first_dead : Table → ℕ → Option ℕ
first_dead w t = find (λ i. is_dead (outcome_at w.outcomes i)) (inputs_at w.submissions t)

-- t dies by the cause; an entry that was not pending is as before; any other fails by its first dead input, or has none and waits
pub record IsKilled (before after : Table) (t : ℕ) (cause : Outcome) : Type 0 where
  pub names : after.names ≡ before.names
  pub submissions : after.submissions ≡ before.submissions
  pub size : length after.outcomes ≡ length before.outcomes
  pub dies : outcome_at after.outcomes t ≡ cause
  pub settled : (u : ℕ) → u ≢ t → outcome_at before.outcomes u ≢ outcome.Pending → outcome_at after.outcomes u ≡ outcome_at before.outcomes u
  pub fails : (u s : ℕ) → u < length before.outcomes → u ≢ t → outcome_at before.outcomes u ≡ outcome.Pending → (outcome_at after.outcomes u ≡ outcome.Input s) ↔ (first_dead after u ≡ Some s)
  pub waits : (u : ℕ) → u < length before.outcomes → u ≢ t → outcome_at before.outcomes u ≡ outcome.Pending → (outcome_at after.outcomes u ≡ outcome.Pending) ↔ (first_dead after u ≡ None)

-- a pending entry hangs on t: t is one of its inputs, or one of its inputs hangs on t
pub data HangsOn (w : Table) (t : ℕ) : ℕ → Type 0 where
  at_once : (u : ℕ) → outcome_at w.outcomes u ≡ outcome.Pending → Contains (inputs_at w.submissions u) t → HangsOn w t u
  through : (u v : ℕ) → outcome_at w.outcomes u ≡ outcome.Pending → Contains (inputs_at w.submissions u) v → HangsOn w t v → HangsOn w t u

-- ---- what a log tells

-- the item does not settle t
abbrev pub SettlesNot : ℕ → LogItem → Type 0
SettlesNot t i = (i ≢ item.Finished t) × (i ≢ item.Killed t)

-- the reply looks at the offsets of an element, which the log does not tell
abbrev pub asks_offsets : Call → Bool
asks_offsets (call.Run n (op.Flat (flat.Rank f b k))) = true
asks_offsets (call.Run n (op.Flat (flat.HitMiss f hit miss))) = true
asks_offsets (call.Run n (op.Gran (gran.Skeleton f b levels))) = true
asks_offsets c = false

-- the name that a submission is to have
abbrev pub new_name : Call → Option Name
new_name (call.Load n g) = Some n
new_name (call.Element n g) = Some n
new_name (call.Run n o) = Some n
new_name c = None

-- the name of the entry that any other call speaks of
abbrev pub old_name : Call → Option Name
old_name (call.Cancel n) = Some n
old_name (call.Status n) = Some n
old_name (call.Fetch n) = Some n
old_name (call.Release n) = Some n
old_name c = None
