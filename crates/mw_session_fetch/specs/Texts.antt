-- What is written for a FETCH.
use Rattle.std.specs.Prelude.{◌≡◌, ◌⊎◌, ℕ, Bool, List, Option, Result}
use Rattle.mw_model.specs.declared.codes.Code.TheVariants.{Memory}
use Rattle.mw_model.specs.declared.calls.Reply.{Reply}
use Rattle.mw_model.specs.Receipts.{MayFail}
use Rattle.mw_model.specs.Scripts.{handed_value}
use Rattle.mw_model.specs.Replies.{handed_text, reply_text, refusal_text, ImageBytes}
use Rattle.mw_store.specs.declared.fetched.FetchedValue.{FetchedValue}
use Rattle.mw_store.specs.Fetches.{shown_value}
use Rattle.mw_wire.specs.Writes.{Wrote}
use Rattle.mw_session_fetch.specs.Errors.{Marks}

-- the reply, and the bytes of the value that it hands out
abbrev pub fetch_text : Reply → FetchedValue → List ℕ
fetch_text r v = reply_text r (handed_value (shown_value v))

-- that, or that the bytes of what it hands out found no memory
abbrev pub SaysFetched : Reply → FetchedValue → List ℕ → Type 0
SaysFetched r v text = (text ≡ fetch_text r v) ⊎ (MayFail r × (text ≡ refusal_text Memory))

-- the reply that hands out these bytes of an image, or that they found no memory
abbrev pub SaysBytes : ℕ → List ℕ → List ℕ → Type 0
SaysBytes t bytes text = (text ≡ handed_text t (ImageBytes bytes)) ⊎ (text ≡ refusal_text Memory)

-- A text that says this was written, or less of it, and the mark was set where it is the line of a refusal.
abbrev pub WritesMarked : {E : Type 0} → (List ℕ → Type 0) → Bool → Bool → Option (List ℕ) → Option (List ℕ) → Result (Unit {0}) E → Type 0
WritesMarked says old new before after result = (text : List ℕ) × says text × Marks old text new × Wrote before after text result
