-- What a session of one thread does and writes: a script is served from a state of the machine (own).
use Rattle.std.specs.Prelude.{◌≡◌, ◌≢◌, ℕ, Bool, true, false, if◌then◌else◌, List, [], ◌∷◌, ◌++◌, map, take, ◌⊎◌, Option, None, Some}
use Rattle.mw_model.specs.declared.codes.Code.{Code}
use Rattle.mw_model.specs.declared.codes.Code.TheVariants as code
use Rattle.mw_model.specs.declared.calls.Outcome.{Outcome}
use Rattle.mw_model.specs.declared.calls.Outcome.TheVariants as outcome
use Rattle.mw_model.specs.declared.calls.Given.{Given}
use Rattle.mw_model.specs.declared.calls.Given.TheVariants as given
use Rattle.mw_model.specs.declared.calls.Call.{Call}
use Rattle.mw_model.specs.declared.calls.Call.TheVariants as call
use Rattle.mw_model.specs.declared.calls.Reply.{Reply}
use Rattle.mw_model.specs.declared.calls.Reply.TheVariants as reply
use Rattle.mw_model.specs.declared.requests.Ask.{Ask}
use Rattle.mw_model.specs.declared.requests.Ask.TheVariants as ask
use Rattle.mw_model.specs.declared.requests.End.{End}
use Rattle.mw_model.specs.declared.requests.End.TheVariants as end
use Rattle.mw_model.specs.Pictures.{Picture}
use Rattle.mw_model.specs.Elements.{Figure, IsElement, ElementRefuses}
use Rattle.mw_model.specs.Curves.{curve_text}
use Rattle.mw_model.specs.NetpbmGrammar.{IsFile}
use Rattle.mw_model.specs.NetpbmRefusals.{Refuses}
use Rattle.mw_model.specs.NetpbmWriting.{text_of}
use Rattle.mw_model.specs.Values.{Value, ImageValue, ElementValue, CurveValue, value_at, shape_of_picture, shape_of_figure}
use Rattle.mw_model.specs.Refusals.{Table, is_pending, name_taken, no_room, first_of}
use Rattle.mw_model.specs.Machine.{Machine, values, reply_to, after, with_table, killed, CanDie}
use Rattle.mw_model.specs.Lines.{Asked, AskLoad, AskElement, AskAlone, Found, Partial, Fault, IsFront, Begins}
use Rattle.mw_model.specs.Replies.{Handed, NoValue, ImageBytes, CurveText, reply_text, refusal_text}

-- ---- the call of a request

-- what the payload of a LOAD is: an image, or why it is none
abbrev pub ImageGiven : List ℕ → Given → Option Value → Type 0
ImageGiven bytes (given.Good s) p = (f : Picture) × IsFile bytes f × (s ≡ shape_of_picture f) × (p ≡ Some (ImageValue f))
ImageGiven bytes (given.Bad c) p = Refuses bytes c × (p ≡ None)

-- what the payload of an ELEMENT is with this origin: an element, or why it is none
abbrev pub ElementGiven : List ℕ → ℕ → ℕ → Given → Option Value → Type 0
ElementGiven bytes ox oy (given.Good s) p = (b : Figure) × IsElement bytes ox oy b × (s ≡ shape_of_figure b) × (p ≡ Some (ElementValue b))
ElementGiven bytes ox oy (given.Bad c) p = ElementRefuses bytes ox oy c × (p ≡ None)

-- the call of a request without payload; WAIT asks as STATUS does, and QUIT calls nothing
abbrev pub Calls : Ask → Call → Type 0
Calls (ask.Run name op) c = c ≡ call.Run name op
Calls (ask.Cancel name) c = c ≡ call.Cancel name
Calls (ask.Release name) c = c ≡ call.Release name
Calls (ask.Status name) c = c ≡ call.Status name
Calls (ask.Fetch name) c = c ≡ call.Fetch name
Calls (ask.Wait name) c = c ≡ call.Status name
Calls ask.Quit c = ⊥

-- the call that a request makes, and the payload that comes with it
abbrev pub IsCallOf : Asked → Call → Option Value → Type 0
IsCallOf (AskLoad name bytes) c p = (g : Given) × ImageGiven bytes g p × (c ≡ call.Load name g)
IsCallOf (AskElement name ox oy bytes) c p = (g : Given) × ElementGiven bytes ox oy g p × (c ≡ call.Element name g)
IsCallOf (AskAlone a) c p = Calls a c × (p ≡ None)

-- why a submission is refused whatever its payload holds
abbrev pub refused_unread : Table → Asked → Option Code
refused_unread w (AskLoad name bytes) = first_of (name_taken w name ∷ no_room w ∷ [])
refused_unread w (AskElement name ox oy bytes) = first_of (name_taken w name ∷ no_room w ∷ [])
refused_unread w r = None

-- ---- replies

-- the bytes of a value that a FETCH hands out
abbrev pub handed_value : Option Value → Handed
handed_value (Some (ImageValue f)) = ImageBytes (text_of f)
handed_value (Some (CurveValue volumes)) = CurveText (curve_text volumes)
handed_value v = NoValue

-- the bytes that go with a reply
abbrev pub handed : Machine → Reply → Handed
handed m (reply.Shown t) = handed_value (value_at (values m) t)
handed m r = NoValue

-- the text of the machine's reply to a call
abbrev pub answer_text : Machine → Call → List ℕ
answer_text m c = reply_text (reply_to m c) (handed m (reply_to m c))

-- this is written for the request, and the machine goes on from that state
pub data Answers (m : Machine) (r : Asked) (text : List ℕ) (n : Machine) : Type 0 where
  unread : (c : Code) → refused_unread m.table r ≡ Some c → text ≡ refusal_text c → n ≡ m → Answers m r text n
  called : (c : Call) (p : Option Value) → IsCallOf r c p → text ≡ answer_text m c → n ≡ after m c p → Answers m r text n

-- ---- work

-- the requests before which all work is run
abbrev pub runs_work : Asked → Bool
runs_work (AskAlone (ask.Status name)) = true
runs_work (AskAlone (ask.Fetch name)) = true
runs_work (AskAlone (ask.Wait name)) = true
runs_work r = false

-- the machine after these tickets were killed for want of memory, one after another
abbrev pub after_kills : Machine → List ℕ → Machine
after_kills m [] = m
after_kills m (t ∷ ts) = after_kills (with_table m (killed m.table t outcome.Memory)) ts

-- each of them is pending when its turn comes
abbrev pub CanAllDie : Machine → List ℕ → Type 0
CanAllDie m [] = Unit {0}
CanAllDie m (t ∷ ts) = CanDie m.table t × CanAllDie (with_table m (killed m.table t outcome.Memory)) ts

-- done, where it was pending
abbrev pub done_if_pending : Outcome → Outcome
done_if_pending o = if is_pending o then outcome.Done else o

-- the machine after each pending entry was done, in ticket order
abbrev pub all_done : Machine → Machine
all_done m = with_table m (record m.table { outcomes = map done_if_pending m.table.outcomes })

-- ---- turns

-- A request, and what want of memory did to it: which tickets it killed before, and whether the request itself, or the text of its answer, found none.
pub record Turn : Type 0 where
  pub request : Asked
  pub kills : List ℕ
  pub no_memory : Bool

-- the work before the request goes from one state to the other
abbrev pub Works : Bool → Machine → List ℕ → Machine → Type 0
Works true m kills n = CanAllDie m kills × (n ≡ all_done (after_kills m kills))
Works false m kills n = (kills ≡ []) × (n ≡ m)

-- what is written for it then
abbrev pub Replies : Bool → Machine → Asked → List ℕ → Machine → Type 0
Replies true m r text n = (text ≡ refusal_text code.Memory) × (n ≡ m)
Replies false m r text n = Answers m r text n

-- the turn goes from one state to the other, and writes this text
abbrev pub IsTurn : Machine → Turn → List ℕ → Machine → Type 0
IsTurn m t text n = (mid : Machine) × Works (runs_work t.request) m t.kills mid × Replies t.no_memory mid t.request text n

-- so do these turns, one after another
abbrev pub AreTurns : Machine → List Turn → List ℕ → Machine → Type 0
AreTurns m [] text n = (text ≡ []) × (n ≡ m)
AreTurns m (t ∷ ts) text n = (mid : Machine) × (front rest : List ℕ) × IsTurn m t front mid × AreTurns mid ts rest n × (text ≡ front ++ rest)

-- the requests of the turns
abbrev pub requests : List Turn → List Asked
requests = map (λ (t : Turn). t.request)

-- none of them asks to quit
abbrev pub NoQuit : List Turn → Type 0
NoQuit [] = Unit {0}
NoQuit (t ∷ ts) = (t.request ≢ AskAlone ask.Quit) × NoQuit ts

-- ---- scripts

-- The bytes are the requests of these turns, and then this rest. The turns go from one state to another, and this is what they write.
pub record Serves (bytes : List ℕ) (turns : List Turn) (rest : List ℕ) (m : Machine) (text : List ℕ) (n : Machine) : Type 0 where
  pub cut : Begins bytes (requests turns) rest
  pub open_still : NoQuit turns
  pub turns_made : AreTurns m turns text n

-- Where these bytes are left, the session may end so. It is true of whole that no byte follows them.
-- The last case is a mark of memory: the session ends by 50 here.
abbrev pub Ends : Type 0 → List ℕ → End → Type 0
Ends whole rest end.Quit = ((rest ≡ []) × whole) ⊎ ((more : List ℕ) × IsFront rest (Found (AskAlone ask.Quit) more))
Ends whole rest (end.Ended c) = IsFront rest (Fault c) ⊎ ((c ≡ code.Cut) × IsFront rest Partial × (rest ≢ []) × whole) ⊎ (c ≡ code.Memory)

-- what is written at the end
abbrev pub end_text : End → List ℕ
end_text end.Quit = []
end_text (end.Ended c) = refusal_text c

-- the script of these bytes, served from one state to another by these turns up to this end, writes this text
abbrev pub IsScript : Type 0 → List ℕ → List Turn → Machine → Machine → List ℕ → End → Type 0
IsScript whole bytes turns m n text e =
    (rest said : List ℕ) × Serves bytes turns rest m said n × Ends whole rest e × (text ≡ said ++ end_text e)

-- nothing follows, or the text of an end
abbrev pub MayFollow : Type 0 → List ℕ → List ℕ → Type 0
MayFollow whole rest more = (more ≡ []) ⊎ ((e : End) × Ends whole rest e × (more ≡ end_text e))

-- the text is a front of what is written for the bytes, where these turns were made and writing may have stopped within the last text
abbrev pub IsBroken : Type 0 → List ℕ → List Turn → Machine → Machine → List ℕ → Type 0
IsBroken whole bytes turns m n text =
    (rest said more : List ℕ) × (k : ℕ) × Serves bytes turns rest m said n × MayFollow whole rest more × (text ≡ take k (said ++ more))
