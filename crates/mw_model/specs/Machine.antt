-- The machine of one thread: its states, its steps, its replies, and the logs that it can make (own).
use Rattle.std.specs.Prelude.{find, ℕ, ◌≡◌, ◌<◌, ◌+◌, true, if◌then◌else◌, List, [], ◌∷◌, ◌++◌, length, slice_set, Option, Some, None}
use Rattle.std.specs.Option.{option_map_or}
use Rattle.std.specs.List.{AllByRecursion}
use Rattle.mw_model.specs.declared.names.Name.{Name}
use Rattle.mw_model.specs.declared.shapes.Kind.TheVariants as kind
use Rattle.mw_model.specs.declared.shapes.Shape.{Shape}
use Rattle.mw_model.specs.declared.shapes.Shape.TheVariants as shape
use Rattle.mw_model.specs.declared.operations.Op.{Op}
use Rattle.mw_model.specs.declared.operations.Op.TheVariants as op
use Rattle.mw_model.specs.declared.operations.FlatOp.TheVariants as flat
use Rattle.mw_model.specs.declared.operations.GranOp.TheVariants as gran
use Rattle.mw_model.specs.declared.submissions.Command.TheVariants as command
use Rattle.mw_model.specs.declared.submissions.Inputs.{Inputs}
use Rattle.mw_model.specs.declared.submissions.Submission.{Submission}
use Rattle.mw_model.specs.declared.codes.Code.{Code}
use Rattle.mw_model.specs.declared.calls.Outcome.{Outcome}
use Rattle.mw_model.specs.declared.calls.Outcome.TheVariants as outcome
use Rattle.mw_model.specs.declared.calls.Given.{Given}
use Rattle.mw_model.specs.declared.calls.Given.TheVariants as given
use Rattle.mw_model.specs.declared.calls.Call.{Call}
use Rattle.mw_model.specs.declared.calls.Call.TheVariants as call
use Rattle.mw_model.specs.declared.calls.Reply.{Reply}
use Rattle.mw_model.specs.declared.calls.Reply.TheVariants as reply
use Rattle.mw_model.specs.declared.calls.LogItem.{LogItem}
use Rattle.mw_model.specs.declared.calls.LogItem.TheVariants as item
use Rattle.mw_model.specs.Pictures.{Picture, IsImage}
use Rattle.mw_model.specs.Elements.{Figure, IsFigure}
use Rattle.mw_model.specs.Values.{Value, ImageValue, ElementValue, tickets, values_after, shape_of_picture, shape_of_figure}
use Rattle.mw_model.specs.Refusals.{Table, Wanted, AnImage, AnElement, ticket_of, ticket, outcome_at, submission_at, shape_at, no_inputs, is_pending, is_dead, is_there, inputs_wanted, refusal}

-- A state of the machine: the table, and the payload of each entry that has one.
pub record Machine : Type 0 where
  pub table : Table
  pub payloads : List (Option Value)

-- nothing was accepted yet
abbrev pub start_state : Machine
start_state = record { table = record { names = []; submissions = []; outcomes = [] }; payloads = [] }

-- the value of each ticket
abbrev pub values : Machine → List (Option Value)
values m = values_after [] m.table.submissions m.payloads

-- ---- replies

-- how an entry stands, as STATUS tells it
abbrev pub status_reply : ℕ → Shape → Outcome → Reply
status_reply t s outcome.Pending = reply.Pending t
status_reply t s outcome.Done = reply.Done t s
status_reply t s outcome.Cancelled = reply.Cancelled t
status_reply t s outcome.Memory = reply.OutOfMemory t
status_reply t s (outcome.Input i) = reply.BadInput t i
status_reply t s outcome.Released = reply.Released t

-- how an entry stands, as FETCH tells it, which shows what is done
abbrev pub fetch_reply : ℕ → Shape → Outcome → Reply
fetch_reply t s outcome.Done = reply.Shown t
fetch_reply t s o = status_reply t s o

-- the reply to a call that is not refused
abbrev pub answer : Table → Call → Reply
answer w (call.Load n g) = reply.Accepted (length w.names)
answer w (call.Element n g) = reply.Accepted (length w.names)
answer w (call.Run n o) = reply.Accepted (length w.names)
answer w (call.Cancel n) = reply.Accepted (ticket w n)
answer w (call.Release n) = reply.Accepted (ticket w n)
answer w (call.Status n) = status_reply (ticket w n) (shape_at w.submissions (ticket w n)) (outcome_at w.outcomes (ticket w n))
answer w (call.Fetch n) = fetch_reply (ticket w n) (shape_at w.submissions (ticket w n)) (outcome_at w.outcomes (ticket w n))

-- the refusal, or else the reply
abbrev pub refused_or : Option Code → Reply → Reply
refused_or None r = r
refused_or (Some c) r = reply.Refused c

-- the reply that a table and the elements give
abbrev pub reply_from : Table → List (Option Value) → Call → Reply
reply_from w elements c = refused_or (refusal w elements c) (answer w c)

-- the machine's reply to a call
abbrev pub reply_to : Machine → Call → Reply
reply_to m c = reply_from m.table m.payloads c

-- ---- what a call changes

-- the ticket of an input
abbrev pub ticket_wanted : Table → Wanted → Option ℕ
ticket_wanted w (AnImage n) = ticket_of w.names n
ticket_wanted w (AnElement n) = ticket_of w.names n

-- the tickets of up to three inputs
abbrev pub inputs_from : Table → List Wanted → Inputs
inputs_from w [] = no_inputs
inputs_from w (a ∷ []) = record { a = ticket_wanted w a; b = None; c = None }
inputs_from w (a ∷ b ∷ []) = record { a = ticket_wanted w a; b = ticket_wanted w b; c = None }
inputs_from w (a ∷ b ∷ c ∷ more) = record { a = ticket_wanted w a; b = ticket_wanted w b; c = ticket_wanted w c }

-- a set with the sides of the image
abbrev pub as_bits : Shape → Shape
as_bits (shape.Image k w h m) = shape.Image kind.Bit w h 1
as_bits s = s

-- a grey image of this maxval with the sides of the image
abbrev pub as_grey : ℕ → Shape → Shape
as_grey maxval (shape.Image k w h m) = shape.Image kind.Grey w h maxval
as_grey maxval s = s

-- the shape of the entry with this name
abbrev pub shape_named : Table → Name → Shape
shape_named w n = shape_at w.submissions (ticket w n)

-- the shape of the first input
abbrev pub first_shape : Table → List Wanted → Shape
first_shape w [] = shape.Curve 0
first_shape w (AnImage f ∷ more) = shape_named w f
first_shape w (AnElement b ∷ more) = shape_named w b

-- the shape of a result, which is known at acceptance
abbrev pub shape_of_result : Table → Op → Shape
shape_of_result w (op.Flat (flat.Threshold f k)) = as_bits (shape_named w f)
shape_of_result w (op.Flat o) = first_shape w (inputs_wanted (op.Flat o))
shape_of_result w (op.Gran (gran.Skeleton f b levels)) = as_grey (levels + 1) (shape_named w f)
shape_of_result w (op.Gran (gran.Restore f b levels)) = as_bits (shape_named w f)
shape_of_result w (op.Gran (gran.Spectrum f b levels)) = shape.Curve (levels + 1)

-- the shape of a good payload
abbrev pub shape_of_given : Given → Shape
shape_of_given (given.Good s) = s
shape_of_given (given.Bad c) = shape.Image kind.Bit 0 0 0

-- one entry more
abbrev pub with_entry : Table → Name → Submission → Outcome → Table
with_entry w n e o = record { names = w.names ++ n ∷ []; submissions = w.submissions ++ e ∷ []; outcomes = w.outcomes ++ o ∷ [] }

-- what is accepted of a payload
abbrev pub given_submission : Given → Submission
given_submission g = record { shape = shape_of_given g; command = command.Given; inputs = no_inputs }

-- what is accepted of an operation
abbrev pub run_submission : Table → Op → Submission
run_submission w o = record { shape = shape_of_result w o; command = command.Run o; inputs = inputs_from w (inputs_wanted o) }

-- t gets this outcome, and nothing else changes
abbrev pub settled : Table → ℕ → Outcome → Table
settled w t o = record w { outcomes = slice_set w.outcomes t o }

-- how a pending entry stands beside the outcomes before it: it fails by its first dead input
abbrev pub beside : List Outcome → Inputs → Outcome → Outcome
beside before inputs o =
    if is_pending o then option_map_or outcome.Input (find (λ t. is_dead (outcome_at before t)) (tickets inputs)) outcome.Pending else o

-- the cascade: in ticket order, each pending entry with a dead input fails
abbrev pub cascaded : List Outcome → List Submission → List Outcome → List Outcome
cascaded before [] outcomes = before
cascaded before (e ∷ es) [] = before
cascaded before (e ∷ es) (o ∷ outcomes) = cascaded (before ++ beside before e.inputs o ∷ []) es outcomes

-- t dies by this cause, and what it was an input of fails
unfoldable pub killed : Table → ℕ → Outcome → Table
killed w t cause = record w { outcomes = cascaded [] w.submissions (slice_set w.outcomes t cause) }

-- the table after a call that is not refused
abbrev pub changed : Table → Call → Table
changed w (call.Load n g) = with_entry w n (given_submission g) outcome.Done
changed w (call.Element n g) = with_entry w n (given_submission g) outcome.Done
changed w (call.Run n o) = with_entry w n (run_submission w o) outcome.Pending
changed w (call.Cancel n) = killed w (ticket w n) outcome.Cancelled
changed w (call.Release n) = settled w (ticket w n) outcome.Released
changed w c = w

-- what was before where the call is refused, else what is after
abbrev pub unless_refused : {X : Type 0} → Option Code → X → X → X
unless_refused None before after = after
unless_refused (Some c) before after = before

-- the table after a call
abbrev pub table_after : Table → List (Option Value) → Call → Table
table_after w elements c = unless_refused (refusal w elements c) w (changed w c)

-- one payload more, with each new entry
abbrev pub payload_of : Call → Option Value → List (Option Value)
payload_of (call.Load n g) p = p ∷ []
payload_of (call.Element n g) p = p ∷ []
payload_of (call.Run n o) p = None ∷ []
payload_of c p = []

-- the machine after a call that comes with this payload
abbrev pub after : Machine → Call → Option Value → Machine
after m c p = record {
  table = table_after m.table m.payloads c;
  payloads = unless_refused (refusal m.table m.payloads c) m.payloads (m.payloads ++ payload_of c p);
}

-- the machine after a change of its table alone
abbrev pub with_table : Machine → Table → Machine
with_table m w = record m { table = w }

-- ---- steps and runs

-- the payload that comes with a call has the shape that the log tells
abbrev pub IsWith : Call → Option Value → Type 0
IsWith (call.Load n (given.Good s)) p = (f : Picture) × (p ≡ Some (ImageValue f)) × IsImage f × (s ≡ shape_of_picture f)
IsWith (call.Element n (given.Good s)) p = (b : Figure) × (p ≡ Some (ElementValue b)) × IsFigure b × (s ≡ shape_of_figure b)
IsWith c p = p ≡ None

-- a pending entry may be done once its inputs are there
pub record CanFinish (w : Table) (t : ℕ) : Type 0 where
  pub within : t < length w.outcomes
  pub pending : outcome_at w.outcomes t ≡ outcome.Pending
  pub inputs_there : AllByRecursion (λ i. is_there (outcome_at w.outcomes i) ≡ true) (tickets (submission_at w.submissions t).inputs)

-- a pending entry may die
pub record CanDie (w : Table) (t : ℕ) : Type 0 where
  pub within : t < length w.outcomes
  pub pending : outcome_at w.outcomes t ≡ outcome.Pending

-- the machine may go from one state to another by what this item of the log tells
abbrev pub Step : Machine → LogItem → Machine → Type 0
Step m (item.Call c r) n = (p : Option Value) × IsWith c p × (r ≡ reply_to m c) × (n ≡ after m c p)
Step m (item.Finished t) n = CanFinish m.table t × (n ≡ with_table m (settled m.table t outcome.Done))
Step m (item.Killed t) n = CanDie m.table t × (n ≡ with_table m (killed m.table t outcome.Memory))

-- the log is a run of the machine from one state to another
abbrev pub Run : Machine → List LogItem → Machine → Type 0
Run m [] n = n ≡ m
Run m (i ∷ items) n = (mid : Machine) × Step m i mid × Run mid items n
