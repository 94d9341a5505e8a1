-- Sessions worked by the definitions of the machine (own).
use Prim.Native.String.{String}
use Rattle.std.specs.Prelude.{pos, negsuc, List, [], ◌∷◌, ◌++◌, Option, Some, None, codes}
use Rattle.mw_model.specs.declared.names.Name.{Name}
use Rattle.mw_model.specs.declared.shapes.Kind.TheVariants.{Grey}
use Rattle.mw_model.specs.declared.operations.Op.TheVariants as op
use Rattle.mw_model.specs.declared.operations.FlatOp.TheVariants as flat
use Rattle.mw_model.specs.declared.operations.GranOp.TheVariants as gran
use Rattle.mw_model.specs.declared.codes.Code.TheVariants as code
use Rattle.mw_model.specs.declared.calls.Outcome.TheVariants as outcome
use Rattle.mw_model.specs.declared.calls.Given.TheVariants as given
use Rattle.mw_model.specs.declared.calls.Call.{Call}
use Rattle.mw_model.specs.declared.calls.Call.TheVariants as call
use Rattle.mw_model.specs.declared.calls.Reply.{Reply}
use Rattle.mw_model.specs.declared.calls.LogItem.{LogItem}
use Rattle.mw_model.specs.declared.calls.LogItem.TheVariants as item
use Rattle.mw_model.specs.Names.{name_of}
use Rattle.mw_model.specs.Pictures.{Picture}
use Rattle.mw_model.specs.Elements.{Figure}
use Rattle.mw_model.specs.Values.{Value, ImageValue, ElementValue, shape_of_picture, shape_of_figure}
use Rattle.mw_model.specs.Machine.{Machine, start_state, with_table, settled, killed, after, reply_to, IsWith}

-- ---- calls that come one after another

-- a call as it arrives, with its payload
pub record Arrival : Type 0 where
  pub call : Call
  pub payload : Option Value

-- the state after all of them
abbrev pub state_after : Machine → List Arrival → Machine
state_after m [] = m
state_after m (q ∷ arrivals) = state_after (after m q.call q.payload) arrivals

-- the replies to them
abbrev pub replies : Machine → List Arrival → List Reply
replies m [] = []
replies m (q ∷ arrivals) = reply_to m q.call ∷ replies (after m q.call q.payload) arrivals

-- what the log keeps of them
abbrev pub logged : Machine → List Arrival → List LogItem
logged m [] = []
logged m (q ∷ arrivals) = item.Call q.call (reply_to m q.call) ∷ logged (after m q.call q.payload) arrivals

-- each payload has the shape that the log tells
abbrev pub AreWithPayloads : List Arrival → Type 0
AreWithPayloads [] = Unit {0}
AreWithPayloads (q ∷ arrivals) = IsWith q.call q.payload × AreWithPayloads arrivals

-- ---- the calls of the examples

-- the name with these letters
abbrev pub named : String → Name
named text = name_of (codes text)

abbrev pub loads : Name → Picture → Arrival
loads n f = record { call = call.Load n (given.Good (shape_of_picture f)); payload = Some (ImageValue f) }

abbrev pub gives : Name → Figure → Arrival
gives n b = record { call = call.Element n (given.Good (shape_of_figure b)); payload = Some (ElementValue b) }

abbrev pub asks : Call → Arrival
asks c = record { call = c; payload = None }

abbrev pub erodes : Name → Name → Name → Arrival
erodes n f b = asks (call.Run n (op.Flat (flat.Erode f b)))

abbrev pub dilates : Name → Name → Name → Arrival
dilates n f b = asks (call.Run n (op.Flat (flat.Dilate f b)))

abbrev pub opens : Name → Name → Name → Arrival
opens n f b = asks (call.Run n (op.Flat (flat.Opening f b)))

-- five samples in a row
abbrev pub five_in_a_row : Picture
five_in_a_row = record { kind = Grey; width = 5; height = 1; maxval = 9; samples = 3 ∷ 1 ∷ 4 ∷ 1 ∷ 5 ∷ [] }

-- three pixels in a row, with the origin between them
abbrev pub three_in_a_row : Figure
three_in_a_row = record {
  width = 3;
  height = 1;
  offsets = record { dx = negsuc 0; dy = pos 0 } ∷ record { dx = pos 0; dy = pos 0 } ∷ record { dx = pos 1; dy = pos 0 } ∷ [];
}

-- one pixel to the right of the origin
abbrev pub right_alone : Figure
right_alone = record { width = 2; height = 1; offsets = record { dx = pos 1; dy = pos 0 } ∷ [] }

-- an image and an element
abbrev pub two_given : List Arrival
two_given = loads (named "f") five_in_a_row ∷ gives (named "b") three_in_a_row ∷ []

-- an image and two elements, of which the last is without its origin
abbrev pub three_given : List Arrival
three_given = two_given ++ gives (named "s") right_alone ∷ []

-- an erosion, and a dilation of it
abbrev pub two_runs : List Arrival
two_runs = two_given ++ erodes (named "a") (named "f") (named "b") ∷ dilates (named "c") (named "a") (named "b") ∷ []

-- the erosion is cancelled
abbrev pub cancelled_erosion : List Arrival
cancelled_erosion =
    two_runs ++ asks (call.Cancel (named "a")) ∷ asks (call.Status (named "a")) ∷ asks (call.Status (named "c")) ∷ opens (named "d") (named "c") (named "b") ∷ opens (named "a") (named "f") (named "b") ∷ asks (call.Cancel (named "a")) ∷ asks (call.Status (named "f")) ∷ asks (call.Fetch (named "b")) ∷ asks (call.Status (named "z")) ∷ []

-- calls with more than one fault, and at last one with none
abbrev pub faulty_calls : List Arrival
faulty_calls =
    three_given
    ++ erodes (named "f") (named "z") (named "z")
    ∷ erodes (named "r") (named "z") (named "f")
    ∷ erodes (named "r") (named "b") (named "z")
    ∷ asks (call.Run (named "r") (op.Flat (flat.Rank (named "f") (named "s") 0)))
    ∷ asks (call.Run (named "r") (op.Flat (flat.Rank (named "f") (named "b") 0)))
    ∷ asks (call.Run (named "r") (op.Flat (flat.Rank (named "f") (named "b") 4)))
    ∷ asks (call.Run (named "r") (op.Flat (flat.Threshold (named "f") 65536)))
    ∷ asks (call.Run (named "r") (op.Flat (flat.HitMiss (named "f") (named "b") (named "s"))))
    ∷ asks (call.Run (named "r") (op.Gran (gran.Skeleton (named "f") (named "s") 0)))
    ∷ asks (call.Load (named "f") (given.Bad code.Magic))
    ∷ asks (call.Load (named "r") (given.Bad code.Magic))
    ∷ asks (call.Element (named "r") (given.Bad code.NotPlain))
    ∷ asks (call.Run (named "r") (op.Flat (flat.Threshold (named "f") 4)))
    ∷ []

-- an image is released, and asked for
abbrev pub released_image : List Arrival
released_image =
    two_runs
    ++ asks (call.Release (named "a"))
    ∷ asks (call.Release (named "f"))
    ∷ asks (call.Status (named "f"))
    ∷ asks (call.Fetch (named "f"))
    ∷ asks (call.Release (named "f"))
    ∷ erodes (named "e") (named "f") (named "b")
    ∷ asks (call.Status (named "a"))
    ∷ asks (call.Release (named "z"))
    ∷ []

-- the state in which the erosion is done
abbrev pub finished_erosion : Machine
finished_erosion = let m = state_after start_state two_runs in with_table m (settled m.table 2 outcome.Done)

-- the state in which the erosion has died for want of memory
abbrev pub starved_erosion : Machine
starved_erosion = let m = state_after start_state two_runs in with_table m (killed m.table 2 outcome.Memory)
