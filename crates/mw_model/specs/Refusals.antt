-- What stands in the machine's table, and why a call is refused: the first case that holds (own).
use Rattle.std.specs.Prelude.{not, unwrap_or, ℕ, ◌||◌, ◌&&◌, Bool, true, false, nat_lt, nat_le, List, [], ◌∷◌, length, map, slice_index_or, Option, Some, None, position}
use Rattle.std.specs.Option.{option_map_or}
use Rattle.mw_model.specs.declared.limits.TheConstants.{ENTRY_LIMIT, LEVEL_LIMIT, SIZE_LIMIT, TURN_LIMIT}
use Rattle.mw_model.specs.declared.names.Name.{Name}
use Rattle.mw_model.specs.declared.offsets.Offset.{Offset}
use Rattle.mw_model.specs.declared.shapes.Kind.TheVariants as kind
use Rattle.mw_model.specs.declared.shapes.Shape.{Shape}
use Rattle.mw_model.specs.declared.shapes.Shape.TheVariants as shape
use Rattle.mw_model.specs.declared.operations.Op.{Op}
use Rattle.mw_model.specs.declared.operations.Op.TheVariants as op
use Rattle.mw_model.specs.declared.operations.FlatOp.TheVariants as flat
use Rattle.mw_model.specs.declared.operations.GranOp.TheVariants as gran
use Rattle.mw_model.specs.declared.submissions.Command.TheVariants as command
use Rattle.mw_model.specs.declared.submissions.Inputs.{Inputs}
use Rattle.mw_model.specs.declared.submissions.Submission.{Submission}
use Rattle.mw_model.specs.declared.codes.Code.{Code}
use Rattle.mw_model.specs.declared.codes.Code.TheVariants as code
use Rattle.mw_model.specs.declared.calls.Outcome.{Outcome}
use Rattle.mw_model.specs.declared.calls.Outcome.TheVariants as outcome
use Rattle.mw_model.specs.declared.calls.Given.{Given}
use Rattle.mw_model.specs.declared.calls.Given.TheVariants as given
use Rattle.mw_model.specs.declared.calls.Call.{Call}
use Rattle.mw_model.specs.declared.calls.Call.TheVariants as call
use Rattle.mw_model.specs.Names.{same_name}
use Rattle.mw_model.specs.Elements.{holds_origin, overlaps}
use Rattle.mw_model.specs.Values.{Value, value_at, offsets_in}

-- What was accepted, in ticket order, and how each entry stands. Every reply but those of 45, 46 and 47 is read off this.
pub record Table : Type 0 where
  pub names : List Name
  pub submissions : List Submission
  pub outcomes : List Outcome

-- ---- looking up

-- a name's ticket is its place
unfoldable pub ticket_of : List Name → Name → Option ℕ
ticket_of names n = position (same_name n) names

-- the ticket of a known name
abbrev pub ticket : Table → Name → ℕ
ticket w n = unwrap_or (ticket_of w.names n) 0

-- how the entry of a ticket stands
abbrev pub outcome_at : List Outcome → ℕ → Outcome
outcome_at outcomes t = slice_index_or outcomes t outcome.Pending

-- the inputs of an entry that has none
abbrev pub no_inputs : Inputs
no_inputs = record { a = None; b = None; c = None }

-- what stands behind the last entry
abbrev pub no_submission : Submission
no_submission = record { shape = shape.Image kind.Bit 0 0 0; command = command.Given; inputs = no_inputs }

-- what was accepted under a ticket
abbrev pub submission_at : List Submission → ℕ → Submission
submission_at submissions t = slice_index_or submissions t no_submission

-- the shape of an entry
abbrev pub shape_at : List Submission → ℕ → Shape
shape_at submissions t = (submission_at submissions t).shape

-- ---- outcomes and shapes

-- the value is still to come
abbrev pub is_pending : Outcome → Bool
is_pending outcome.Pending = true
is_pending o = false

-- the value is there
abbrev pub is_done : Outcome → Bool
is_done outcome.Done = true
is_done o = false

-- cancelled, out of memory, or failed by an input
abbrev pub is_dead : Outcome → Bool
is_dead outcome.Cancelled = true
is_dead outcome.Memory = true
is_dead (outcome.Input s) = true
is_dead o = false

-- the value was there, and was given up
abbrev pub is_released : Outcome → Bool
is_released outcome.Released = true
is_released o = false

-- all that a command needs of an input: it is done, or released since
abbrev pub is_there : Outcome → Bool
is_there o = is_done o || is_released o

-- the shape of an image
abbrev pub is_image : Shape → Bool
is_image (shape.Image k w h m) = true
is_image s = false

-- the shape of an element
abbrev pub is_element : Shape → Bool
is_element (shape.Element w h) = true
is_element s = false

-- the shape of a set
abbrev pub is_binary : Shape → Bool
is_binary (shape.Image kind.Bit w h m) = true
is_binary s = false

-- ---- cases

-- the first case that holds
abbrev pub first_of : List (Option Code) → Option Code
first_of [] = None
first_of (None ∷ cases) = first_of cases
first_of (Some c ∷ cases) = Some c

-- the code, where the case holds
abbrev pub when : Bool → Code → Option Code
when true c = Some c
when false c = None

-- the name is unknown, or what holds of its ticket
abbrev pub if_known : Table → Name → (ℕ → Option Code) → Option Code
if_known w n holds = option_map_or holds (ticket_of w.names n) (Some code.Unknown)

-- the name has an entry
abbrev pub name_taken : Table → Name → Option Code
name_taken w n = option_map_or (λ t. Some code.NameTaken) (ticket_of w.names n) None

-- there are as many entries as there may be
abbrev pub no_room : Table → Option Code
no_room w = when (not (nat_lt (length w.names) ENTRY_LIMIT)) code.Full

-- what may stand in the place of an input
pub data Wanted : Type 0 where
  AnImage : Name → Wanted
  AnElement : Name → Wanted

-- an input has to be known, of the kind wanted, and neither dead nor released
abbrev pub input_case : Table → (Shape → Bool) → Name → Option Code
input_case w fits n =
    if_known w n (λ t. first_of (when (not (fits (shape_at w.submissions t))) code.Kind
    ∷ when (is_dead (outcome_at w.outcomes t)) code.Dead
    ∷ when (is_released (outcome_at w.outcomes t)) code.Released ∷ []))

-- what is wrong with an input
abbrev pub wanted_case : Table → Wanted → Option Code
wanted_case w (AnImage n) = input_case w is_image n
wanted_case w (AnElement n) = input_case w is_element n

-- the inputs of an operation, in argument order
abbrev pub inputs_wanted : Op → List Wanted
inputs_wanted (op.Flat (flat.Erode f b)) = AnImage f ∷ AnElement b ∷ []
inputs_wanted (op.Flat (flat.Dilate f b)) = AnImage f ∷ AnElement b ∷ []
inputs_wanted (op.Flat (flat.Opening f b)) = AnImage f ∷ AnElement b ∷ []
inputs_wanted (op.Flat (flat.Closing f b)) = AnImage f ∷ AnElement b ∷ []
inputs_wanted (op.Flat (flat.Gradient f b)) = AnImage f ∷ AnElement b ∷ []
inputs_wanted (op.Flat (flat.WhiteTopHat f b)) = AnImage f ∷ AnElement b ∷ []
inputs_wanted (op.Flat (flat.BlackTopHat f b)) = AnImage f ∷ AnElement b ∷ []
inputs_wanted (op.Flat (flat.Rank f b k)) = AnImage f ∷ AnElement b ∷ []
inputs_wanted (op.Flat (flat.Threshold f k)) = AnImage f ∷ []
inputs_wanted (op.Flat (flat.HitMiss f hit miss)) = AnImage f ∷ AnElement hit ∷ AnElement miss ∷ []
inputs_wanted (op.Gran (gran.Skeleton f b levels)) = AnImage f ∷ AnElement b ∷ []
inputs_wanted (op.Gran (gran.Restore f b levels)) = AnImage f ∷ AnElement b ∷ []
inputs_wanted (op.Gran (gran.Spectrum f b levels)) = AnImage f ∷ AnElement b ∷ []

-- the offsets of the element with this name
abbrev pub offsets_at : Table → List (Option Value) → Name → List Offset
offsets_at w values n = unwrap_or (offsets_in (value_at values (ticket w n))) []

-- the image is no set
abbrev pub binary_case : Table → Name → Option Code
binary_case w f = when (not (is_binary (shape_at w.submissions (ticket w f)))) code.Binary

-- the element does not hold its origin
abbrev pub origin_case : Table → List (Option Value) → Name → Option Code
origin_case w values b = when (not (holds_origin (offsets_at w values b))) code.NoOrigin

-- the number is not from the first to the last
abbrev pub param_case : ℕ → ℕ → ℕ → Option Code
param_case first last k = when (not (nat_le first k && nat_le k last)) code.Param

-- what else an operation asks of its inputs and numbers
abbrev pub op_cases : Table → List (Option Value) → Op → List (Option Code)
op_cases w values (op.Flat (flat.Rank f b k)) = origin_case w values b ∷ param_case 1 (length (offsets_at w values b)) k ∷ []
op_cases w values (op.Flat (flat.Threshold f k)) = param_case 0 LEVEL_LIMIT k ∷ []
op_cases w values (op.Flat (flat.HitMiss f hit miss)) = when (overlaps (offsets_at w values hit) (offsets_at w values miss)) code.Overlap ∷ []
op_cases w values (op.Gran (gran.Skeleton f b levels)) = binary_case w f ∷ origin_case w values b ∷ param_case 1 TURN_LIMIT levels ∷ []
op_cases w values (op.Gran (gran.Restore f b levels)) = param_case 1 TURN_LIMIT levels ∷ []
op_cases w values (op.Gran (gran.Spectrum f b levels)) = param_case 1 SIZE_LIMIT levels ∷ []
op_cases w values o = []

-- what is wrong with a payload
abbrev pub fault_of : Given → Option Code
fault_of (given.Good s) = None
fault_of (given.Bad c) = Some c

-- what is not pending cannot be cancelled
abbrev pub cancel_case : Outcome → Option Code
cancel_case o = when (not (is_pending o)) code.Settled

-- what is not done cannot be released
abbrev pub release_case : Outcome → Option Code
release_case o = first_of (when (is_pending o) code.Pending ∷ when (is_dead o) code.Dead ∷ when (is_released o) code.Released ∷ [])

-- why a call is refused, if it is; the values are those of the elements
abbrev pub refusal : Table → List (Option Value) → Call → Option Code
refusal w values (call.Load n g) = first_of (name_taken w n ∷ no_room w ∷ fault_of g ∷ [])
refusal w values (call.Element n g) = first_of (name_taken w n ∷ no_room w ∷ fault_of g ∷ [])
refusal w values (call.Run n o) = first_of (name_taken w n ∷ no_room w ∷ first_of (map (wanted_case w) (inputs_wanted o)) ∷ first_of (op_cases w values o) ∷ [])
refusal w values (call.Cancel n) = if_known w n (λ t. cancel_case (outcome_at w.outcomes t))
refusal w values (call.Status n) = if_known w n (λ t. None)
refusal w values (call.Fetch n) = if_known w n (λ t. when (is_element (shape_at w.submissions t)) code.Kind)
refusal w values (call.Release n) = if_known w n (λ t. release_case (outcome_at w.outcomes t))
