-- What a session at a board writes, and which receipts it adds.
use Rattle.std.specs.Prelude.{◌≡◌, ℕ, List, [], ◌++◌, take, Option, Result}
use Rattle.std.specs.Io.KnownBytes.{Appends}
use Rattle.mw_model.specs.declared.codes.Code.TheVariants.{Memory}
use Rattle.mw_model.specs.declared.calls.Given.{Given}
use Rattle.mw_model.specs.declared.calls.Call.{Call}
use Rattle.mw_model.specs.declared.calls.Call.TheVariants as call
use Rattle.mw_model.specs.declared.calls.Reply.{Reply}
use Rattle.mw_model.specs.declared.receipts.Receipt.{Receipt}
use Rattle.mw_model.specs.declared.requests.End.{End}
use Rattle.mw_model.specs.Lines.{Asked, AskLoad, AskElement, AskAlone, Begins}
use Rattle.mw_model.specs.Replies.{refusal_text}
use Rattle.mw_model.specs.Receipts.{IsTextOf, AreServed}
use Rattle.mw_model.specs.Scripts.{Calls, MayFollow, end_text}
use Rattle.mw_pool.specs.mw_pool_passes.Passes.{AddsReceipt}
use Rattle.mw_pool.specs.Payloads.{TellsImage, TellsElement}
use Rattle.mw_session_fetch.specs.mw_wire.Chains.{NoneQuits}
use Rattle.mw_session_fetch.specs.mw_wire.Rooms.{EndsAt, LacksRoom}
use Rattle.mw_session_fetch.specs.mw_wire.Runs.{DeskRan}
use Rattle.mw_session_fetch.specs.mw_wire.declared.fault.SessionFault.{SessionFault}

-- the call that is made of a request, with what its payload was found to be
abbrev pub MakesCall : Asked → Call → Type 0
MakesCall (AskLoad name bytes) c = (g : Given) × TellsImage bytes g × (c ≡ call.Load name g)
MakesCall (AskElement name ox oy bytes) c = (g : Given) × TellsElement bytes ox oy g × (c ≡ call.Element name g)
MakesCall (AskAlone a) c = Calls a c

-- A request was served at a board. Its call found no memory, and that is written; or the pass has one receipt more, of its call, and this is written of the receipt's reply.
pub data RequestServed (old : List Receipt) (r : Asked) (text : List ℕ) (new : List Receipt) : Type 0 where
  refused : new ≡ old → text ≡ refusal_text Memory → RequestServed old r text new
  received : (c : Call) (a : Reply) → MakesCall r c → AddsReceipt old new c a → IsTextOf a text → RequestServed old r text new

-- a session was served with a pass of its own, from its first request to some end
abbrev pub ServedWhole : List Receipt → Option (List ℕ) → Option (List ℕ) → Option (List ℕ) → Option (List ℕ) → Type 0
ServedWhole pass had left before after = (end : Result End SessionFault) × DeskRan RequestServed [] pass had left before after end

-- ---- whole sessions, in the words of receipts

-- These receipts were added, which are those of the requests that the bytes begin with, and this is the text of their replies. The rest follows them.
pub record Receives (bytes rest : List ℕ) (old new : List Receipt) (text : List ℕ) : Type 0 where
  pub asked : List Asked
  pub receipts : List Receipt
  pub cut : Begins bytes asked rest
  pub open_still : NoneQuits asked
  pub added : new ≡ old ++ receipts
  pub served : AreServed asked receipts text

-- all of them are written, and the text of the end
abbrev pub WroteAll : Type 0 → List ℕ → List Receipt → List Receipt → Option (List ℕ) → Option (List ℕ) → End → Type 0
WroteAll whole bytes old new before after e =
    (rest text : List ℕ) × Receives bytes rest old new text × EndsAt (LacksRoom bytes) whole rest e × Appends before after (text ++ end_text e)

-- a front of them is written, and of the text of an end
abbrev pub WroteFront : Type 0 → List ℕ → List Receipt → List Receipt → Option (List ℕ) → Option (List ℕ) → Type 0
WroteFront whole bytes old new before after =
    (rest text more : List ℕ) × (k : ℕ) × Receives bytes rest old new text × MayFollow whole rest more × Appends before after (take k (text ++ more))
