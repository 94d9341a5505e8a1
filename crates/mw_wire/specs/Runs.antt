-- What a session over a desk read, wrote and left.
use Rattle.std.specs.Prelude.{◌≡◌, ◌≢◌, ◌<◌, ◌⊎◌, ℕ, List, ◌++◌, length, take, Option, MatchResult, MatchOption, Result}
use Rattle.std.specs.Io.KnownBytes.{Appends, Consumes, IsAtEnd}
use Rattle.mw_model.specs.declared.requests.Ask.TheVariants.{Quit}
use Rattle.mw_model.specs.declared.requests.End.{End}
use Rattle.mw_model.specs.Lines.{Asked, AskAlone, Found, Partial}
use Rattle.mw_model.specs.Scripts.{end_text}
use Rattle.mw_session_intake.specs.Intake.{Held}
use Rattle.mw_session_intake.specs.Reading.{front}
use Rattle.mw_wire.specs.declared.fault.SessionFault.{SessionFault}
use Rattle.mw_wire.specs.declared.fault.SessionFault.TheVariants as fault
use Rattle.mw_wire.specs.Rooms.{EndsAt, WantsRoom, LacksRoom}
use Rattle.mw_wire.specs.Chains.{HasAnswered}

module _ {S : Type 0} (Answer : S → Asked → List ℕ → S → Type 0) where
  -- All that waits was answered, all answers were written, and less than a request is left.
  pub record AllAnswered (bytes rest : List ℕ) (s t : S) (before after : Option (List ℕ)) : Type 0 where
    pub asked : List Asked
    pub text : List ℕ
    pub made : HasAnswered Answer bytes asked rest s text t
    pub open_still : front rest ≡ Partial
    pub wrote : Appends before after text

  -- The session came to this end: all before it was answered, and the answers and the text of the end were written. left is what the reader still has.
  pub record CameToEnd (lacks : List ℕ → Type 0) (left : Option (List ℕ)) (bytes : List ℕ) (s t : S) (before after : Option (List ℕ)) (end : End) : Type 0 where
    pub asked : List Asked
    pub rest : List ℕ
    pub text : List ℕ
    pub made : HasAnswered Answer bytes asked rest s text t
    pub ends : EndsAt lacks (IsAtEnd left) rest end
    pub wrote : Appends before after (text ++ end_text end)

  -- Writing stopped within the last answer; all before it is written.
  pub record CutInAnswer (bytes : List ℕ) (s t : S) (before after : Option (List ℕ)) : Type 0 where
    pub asked : List Asked
    pub rest : List ℕ
    pub text : List ℕ
    pub mid : S
    pub made : HasAnswered Answer bytes asked rest s text mid
    pub last : Asked
    pub behind : List ℕ
    pub next : front rest ≡ Found last behind
    pub open_still : last ≢ AskAlone Quit
    pub reply : List ℕ
    pub answer : Answer mid last reply t
    pub count : ℕ
    pub less : count < length reply
    pub wrote : Appends before after (text ++ take count reply)

  -- Writing stopped within the text of the end; all before it is written.
  pub record CutInEnd (lacks : List ℕ → Type 0) (left : Option (List ℕ)) (bytes : List ℕ) (s t : S) (before after : Option (List ℕ)) : Type 0 where
    pub asked : List Asked
    pub rest : List ℕ
    pub text : List ℕ
    pub made : HasAnswered Answer bytes asked rest s text t
    pub end : End
    pub ends : EndsAt lacks (IsAtEnd left) rest end
    pub count : ℕ
    pub less : count < length (end_text end)
    pub wrote : Appends before after (text ++ take count (end_text end))

  -- where a fault stops a session: a reader's where all that was due is written, a writer's within an answer or an end
  abbrev pub BrokeOff : (List ℕ → Type 0) → Option (List ℕ) → List ℕ → S → S → Option (List ℕ) → Option (List ℕ) → SessionFault → Type 0
  BrokeOff lacks left bytes s t before after fault.Read = (rest : List ℕ) × AllAnswered bytes rest s t before after
  BrokeOff lacks left bytes s t before after fault.Write = CutInAnswer bytes s t before after ⊎ CutInEnd lacks left bytes s t before after

  -- all that was due was handed to the writer, and it failed to pass that on
  abbrev pub NotPassedOn : (List ℕ → Type 0) → Option (List ℕ) → List ℕ → S → S → Option (List ℕ) → Option (List ℕ) → Type 0
  NotPassedOn lacks left bytes s t before after =
      ((rest : List ℕ) × AllAnswered bytes rest s t before after) ⊎ ((end : End) × CameToEnd lacks left bytes s t before after end)

  -- where a fault stops a whole session: there, or where the writer was to pass on what it holds
  abbrev pub Halted : (List ℕ → Type 0) → Option (List ℕ) → List ℕ → S → S → Option (List ℕ) → Option (List ℕ) → SessionFault → Type 0
  Halted lacks left bytes s t before after fault.Read = BrokeOff lacks left bytes s t before after fault.Read
  Halted lacks left bytes s t before after fault.Write = BrokeOff lacks left bytes s t before after fault.Write ⊎ NotPassedOn lacks left bytes s t before after

  -- what waited was answered, up to the end of the session where it came, and this is held then
  abbrev pub Drains : Option (List ℕ) → List ℕ → Held → S → S → Option (List ℕ) → Option (List ℕ) → Result (Option End) SessionFault → Type 0
  Drains left bytes h s t before after result =
      MatchResult result
      (λ o. MatchOption o (AllAnswered bytes h.bytes s t before after) (λ end. CameToEnd (WantsRoom h) left bytes s t before after end))
      (λ f. BrokeOff (WantsRoom h) left bytes s t before after f)

  -- A whole session was served: of what the reader had these bytes were taken, and answered up to the end, or to where a fault stopped it.
  pub record DeskRan (s t : S) (had left before after : Option (List ℕ)) (result : Result End SessionFault) : Type 0 where
    pub taken : List ℕ
    pub read : Consumes had left taken
    pub ran : MatchResult result (λ end. CameToEnd (LacksRoom taken) left taken s t before after end) (λ f. Halted (LacksRoom taken) left taken s t before after f)
