-- What was written.
use Rattle.std.specs.Prelude.{◌≡◌, ◌<◌, ℕ, List, take, length, Option, Some, Result, Ok, Err, MatchResult}
use Rattle.std.specs.Io.KnownBytes.{Appends}
use Rattle.mw_model.specs.declared.codes.Code.{Code}
use Rattle.mw_model.specs.declared.codes.Code.TheVariants.{Memory}
use Rattle.mw_model.specs.declared.calls.Reply.{Reply}
use Rattle.mw_model.specs.declared.requests.End.{End}
use Rattle.mw_model.specs.declared.requests.End.TheVariants.{Ended}
use Rattle.mw_model.specs.Replies.{reply_text, refusal_text, NoValue}

-- a front of the text was written, and not all of it
abbrev pub CutsShort : Option (List ℕ) → Option (List ℕ) → List ℕ → Type 0
CutsShort old new text = (k : ℕ) × (k < length text) × Appends old new (take k text)

-- all of the text at Ok, and less at Err
abbrev pub Wrote : {E : Type 0} → Option (List ℕ) → Option (List ℕ) → List ℕ → Result (Unit {0}) E → Type 0
Wrote old new text result = MatchResult result (λ _. Appends old new text) (λ _. CutsShort old new text)

-- the text for a call that hands out no value: its reply, or that it found no memory
abbrev pub told_text : {E : Type 0} → Result Reply E → List ℕ
told_text (Ok r) = reply_text r NoValue
told_text (Err e) = refusal_text Memory

-- the end by a refusal, whose text was written, or less of it
abbrev pub EndsBy : {E : Type 0} → Option (List ℕ) → Option (List ℕ) → Code → Result End E → Type 0
EndsBy old new c result = MatchResult result (λ e. (e ≡ Ended c) × Appends old new (refusal_text c)) (λ _. CutsShort old new (refusal_text c))

-- the end by a refusal, where the session may also go on
abbrev pub EndedBy : {E : Type 0} → Option (List ℕ) → Option (List ℕ) → Code → Result (Option End) E → Type 0
EndedBy old new c result =
    MatchResult result (λ o. (o ≡ Some (Ended c)) × Appends old new (refusal_text c)) (λ _. CutsShort old new (refusal_text c))
