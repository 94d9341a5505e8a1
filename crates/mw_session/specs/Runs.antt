-- What a run of a session says of the bytes, the log and the machine.
use Rattle.std.specs.Prelude.{◌≡◌, ◌≢◌, ◌<◌, ◌⊎◌, ℕ, List, ◌++◌, length, take, Option, MatchResult, Result}
use Rattle.std.specs.Io.KnownBytes.{Appends, Consumes, IsAtEnd}
use Rattle.mw_model.specs.declared.calls.LogItem.{LogItem}
use Rattle.mw_model.specs.declared.requests.Ask.TheVariants.{Quit}
use Rattle.mw_model.specs.declared.requests.End.{End}
use Rattle.mw_model.specs.Machine.{Machine}
use Rattle.mw_model.specs.Stands.{CoreView, StandsFor, running_count}
use Rattle.mw_model.specs.Lines.{AskAlone, Found, Partial}
use Rattle.mw_core_waves.specs.mw_session_intake.Reading.{front}
use Rattle.mw_model.specs.Scripts.{Turn, end_text}
use Rattle.mw_core_waves.specs.mw_session_laws.Marks.{kills_of, killed_in}
use Rattle.mw_session_fetch.specs.mw_wire.Rooms.{EndsAt, LacksRoom}
use Rattle.mw_session.specs.Turns.{TurnMade, HasServed}
use Rattle.mw_session_fetch.specs.mw_wire.declared.fault.SessionFault.{SessionFault}
use Rattle.mw_session_fetch.specs.mw_wire.declared.fault.SessionFault.TheVariants as fault

-- ---- where a run stands

-- Where a core's log went on from old to new, the kills of these turns are those that the log tells, in order.
abbrev pub ShowsKills : List Turn → List LogItem → List LogItem → Type 0
ShowsKills turns old new = (items : List LogItem) × (new ≡ old ++ items) × (killed_in items ≡ kills_of turns)

-- All that waits was served and said, and less than a request is left.
pub record Drained (bytes rest : List ℕ) (m n : Machine) (old new : List LogItem) (before after : Option (List ℕ)) : Type 0 where
  pub turns : List Turn
  pub text : List ℕ
  pub items : List LogItem
  pub served : HasServed bytes turns rest m text items n
  pub open_still : front rest ≡ Partial
  pub log : new ≡ old ++ items
  pub wrote : Appends before after text

-- The script of these bytes was served up to this end; left is what the reader still has.
pub record Finished (lacks : List ℕ → Type 0) (left : Option (List ℕ)) (bytes : List ℕ) (m n : Machine) (old new : List LogItem) (before after : Option (List ℕ)) (end : End) : Type 0 where
  pub turns : List Turn
  pub rest : List ℕ
  pub text : List ℕ
  pub items : List LogItem
  pub served : HasServed bytes turns rest m text items n
  pub ends : EndsAt lacks (IsAtEnd left) rest end
  pub log : new ≡ old ++ items
  pub wrote : Appends before after (text ++ end_text end)

-- ---- where a run stops

-- All that was read is served, and all that was due is said.
abbrev pub SaidAll : List ℕ → Machine → Machine → List LogItem → List LogItem → Option (List ℕ) → Option (List ℕ) → Type 0
SaidAll bytes m n old new before after = (rest : List ℕ) × Drained bytes rest m n old new before after

-- Writing stopped within the reply to the last request that was served; all before it is said.
pub record CutReply (bytes : List ℕ) (m n : Machine) (old new : List LogItem) (before after : Option (List ℕ)) : Type 0 where
  pub turns : List Turn
  pub rest : List ℕ
  pub text : List ℕ
  pub items : List LogItem
  pub state : Machine
  pub served : HasServed bytes turns rest m text items state
  pub last : Turn
  pub behind : List ℕ
  pub next : front rest ≡ Found last.request behind
  pub open_still : last.request ≢ AskAlone Quit
  pub reply : List ℕ
  pub told : List LogItem
  pub made : TurnMade state last reply told n
  pub log : new ≡ old ++ (items ++ told)
  pub count : ℕ
  pub less : count < length reply
  pub wrote : Appends before after (text ++ take count reply)

-- Writing stopped within the text of the end; all before it is said.
pub record CutEnd (lacks : List ℕ → Type 0) (left : Option (List ℕ)) (bytes : List ℕ) (m n : Machine) (old new : List LogItem) (before after : Option (List ℕ)) : Type 0 where
  pub turns : List Turn
  pub rest : List ℕ
  pub text : List ℕ
  pub items : List LogItem
  pub served : HasServed bytes turns rest m text items n
  pub end : End
  pub ends : EndsAt lacks (IsAtEnd left) rest end
  pub log : new ≡ old ++ items
  pub count : ℕ
  pub less : count < length (end_text end)
  pub wrote : Appends before after (text ++ take count (end_text end))

-- All that was due was handed to the writer, and it failed to pass that on.
abbrev pub NotPassedOn : (List ℕ → Type 0) → Option (List ℕ) → List ℕ → Machine → Machine → List LogItem → List LogItem → Option (List ℕ) → Option (List ℕ) → Type 0
NotPassedOn lacks left bytes m n old new before after =
    SaidAll bytes m n old new before after ⊎ ((end : End) × Finished lacks left bytes m n old new before after end)

-- where a fault stops a run
abbrev pub Stopped : (List ℕ → Type 0) → Option (List ℕ) → List ℕ → Machine → Machine → List LogItem → List LogItem → Option (List ℕ) → Option (List ℕ) → SessionFault → Type 0
Stopped lacks left bytes m n old new before after fault.Read = SaidAll bytes m n old new before after
Stopped lacks left bytes m n old new before after fault.Write = CutReply bytes m n old new before after ⊎ CutEnd lacks left bytes m n old new before after ⊎ NotPassedOn lacks left bytes m n old new before after

-- ---- runs

-- a session served these bytes, and ended so
abbrev pub Ran : (List ℕ → Type 0) → Option (List ℕ) → List ℕ → Machine → Machine → List LogItem → List LogItem → Option (List ℕ) → Option (List ℕ) → Result End SessionFault → Type 0
Ran lacks left bytes m n old new before after result =
    MatchResult result (λ end. Finished lacks left bytes m n old new before after end) (λ f. Stopped lacks left bytes m n old new before after f)

-- A whole session was served: of what the reader had these bytes were taken, the core then stands for the state after them, and no task is running.
pub record SessionRan (m : Machine) (old new : CoreView) (had left before after : Option (List ℕ)) (result : Result End SessionFault) : Type 0 where
  pub taken : List ℕ
  pub state : Machine
  pub read : Consumes had left taken
  pub stands : StandsFor new state
  pub idle : running_count new ≡ 0
  pub ran : Ran (LacksRoom taken) left taken m state old.log new.log before after result
