-- What a new entry is in the table of the machine.
use Rattle.std.specs.Prelude.{◌≡◌, false, Option, Some, None}
use Rattle.mw_model.specs.declared.operations.Op.{Op}
use Rattle.mw_model.specs.declared.submissions.Command.{Command}
use Rattle.mw_model.specs.declared.submissions.Command.TheVariants as command
use Rattle.mw_model.specs.declared.submissions.Submission.{Submission}
use Rattle.mw_model.specs.declared.calls.Outcome.{Outcome}
use Rattle.mw_model.specs.declared.calls.Outcome.TheVariants as outcome
use Rattle.mw_model.specs.declared.calls.Given.TheVariants as given
use Rattle.mw_model.specs.Values.{Value, ImageValue, ElementValue, shape_of_picture, shape_of_figure}
use Rattle.mw_model.specs.Refusals.{is_element}
use Rattle.mw_model.specs.Machine.{given_submission}
use Rattle.mw_store.specs.declared.kept.Entry.{Entry}
use Rattle.mw_store.specs.declared.kept.Entry.TheVariants as entry

-- what the table holds of the entry
abbrev pub submission_of : Entry → Submission
submission_of (entry.Image f) = given_submission (given.Good (shape_of_picture f))
submission_of (entry.Element b) = given_submission (given.Good (shape_of_figure b))
submission_of (entry.Run s) = s

-- payloads are done at once
abbrev pub outcome_of : Entry → Outcome
outcome_of (entry.Image f) = outcome.Done
outcome_of (entry.Element b) = outcome.Done
outcome_of (entry.Run s) = outcome.Pending

-- the payload of the entry
abbrev pub payload_in : Entry → Option Value
payload_in (entry.Image f) = Some (ImageValue f)
payload_in (entry.Element b) = Some (ElementValue b)
payload_in (entry.Run s) = None

-- no RUN makes an element
abbrev pub MakesNoElement : Entry → Type 0
MakesNoElement (entry.Run s) = is_element s.shape ≡ false
MakesNoElement e = Unit {0}

-- the operation of a RUN
abbrev pub op_of : Command → Option Op
op_of (command.Run o) = Some o
op_of command.Given = None
