-- Receipts of calls, whether they cover a log, and what a served session writes of them (own).
use Rattle.std.specs.Prelude.{◌≡◌, ℕ, ◌+◌, ◌<◌, ◌==◌, List, [], ◌∷◌, ◌++◌, length, ◌⊎◌, Some, slice_get, slice_index_or, All, count_by, sum_by}
use Rattle.mw_model.specs.declared.codes.Code.TheVariants as code
use Rattle.mw_model.specs.declared.calls.Given.{Given}
use Rattle.mw_model.specs.declared.calls.Call.{Call}
use Rattle.mw_model.specs.declared.calls.Call.TheVariants as call
use Rattle.mw_model.specs.declared.calls.Reply.{Reply}
use Rattle.mw_model.specs.declared.calls.Reply.TheVariants as reply
use Rattle.mw_model.specs.declared.calls.LogItem.{LogItem}
use Rattle.mw_model.specs.declared.calls.LogItem.TheVariants as item
use Rattle.mw_model.specs.declared.receipts.Receipt.{Receipt}
use Rattle.mw_model.specs.Pictures.{Picture}
use Rattle.mw_model.specs.Curves.{curve_text}
use Rattle.mw_model.specs.NetpbmWriting.{text_of}
use Rattle.mw_model.specs.Lines.{Asked, AskLoad, AskElement, AskAlone}
use Rattle.mw_model.specs.Scripts.{Calls}
use Rattle.mw_model.specs.Replies.{Handed, NoValue, ImageBytes, CurveText, reply_text, refusal_text}

-- ---- the audit

-- the receipt's call and reply stand in the log at its place
abbrev pub IsLogged : List LogItem → Receipt → Type 0
IsLogged log r = slice_get log r.place ≡ Some (item.Call r.call r.reply)

-- the places rise
abbrev pub Rises : List Receipt → Type 0
Rises receipts = (k : ℕ) (d : Receipt) → k + 1 < length receipts → (slice_index_or receipts k d).place < (slice_index_or receipts (k + 1) d).place

-- how many receipts of all the passes are of this place
abbrev pub count_at : List (List Receipt) → ℕ → ℕ
count_at passes place = sum_by (λ receipts. count_by (λ (r : Receipt). r.place == place) receipts) passes

-- In each pass the places rise, each receipt is of the call at its place, and each call has exactly one receipt.
pub record Covers (log : List LogItem) (passes : List (List Receipt)) : Type 0 where
  pub rising : All Rises passes
  pub logged : All (All (IsLogged log)) passes
  pub once : (place : ℕ) (c : Call) (r : Reply) → slice_get log place ≡ Some (item.Call c r) → count_at passes place ≡ 1

-- ---- served sessions

-- the call is that of the request, whatever its payload was found to hold
abbrev pub IsCallFor : Asked → Call → Type 0
IsCallFor (AskLoad name bytes) c = (g : Given) × (c ≡ call.Load name g)
IsCallFor (AskElement name ox oy bytes) c = (g : Given) × (c ≡ call.Element name g)
IsCallFor (AskAlone a) c = Calls a c

-- the bytes of some image or curve where the reply hands out a value, and none elsewhere
abbrev pub MayHand : Reply → Handed → Type 0
MayHand (reply.Shown t) value = ((f : Picture) × (value ≡ ImageBytes (text_of f))) ⊎ ((volumes : List ℕ) × (value ≡ CurveText (curve_text volumes)))
MayHand r value = value ≡ NoValue

-- the text of a reply that hands out a value may find no memory
abbrev pub MayFail : Reply → Type 0
MayFail (reply.Shown t) = Unit {0}
MayFail r = ⊥

-- what may be written of a reply
abbrev pub IsTextOf : Reply → List ℕ → Type 0
IsTextOf r text = ((value : Handed) × MayHand r value × (text ≡ reply_text r value)) ⊎ (MayFail r × (text ≡ refusal_text code.Memory))

-- The receipts are those of these requests, in order, and this is what is written for them. A request without a receipt found no memory.
abbrev pub AreServed : List Asked → List Receipt → List ℕ → Type 0
AreServed [] receipts text = (receipts ≡ []) × (text ≡ [])
AreServed (r ∷ rs) receipts text =
    ((rest : List ℕ) × AreServed rs receipts rest × (text ≡ refusal_text code.Memory ++ rest))
    ⊎ ((one : Receipt) × (more : List Receipt) × (front rest : List ℕ) × (receipts ≡ one ∷ more) × IsCallFor r one.call × IsTextOf one.reply front × AreServed rs more rest × (text ≡ front ++ rest))
