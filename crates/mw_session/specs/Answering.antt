-- What answering a request says.
use Rattle.std.specs.Prelude.{◌≡◌, ◌⊎◌, ◌++◌, ℕ, Bool, true, List, Option, None, Result}
use Rattle.mw_model.specs.Machine.{Machine}
use Rattle.mw_model.specs.declared.calls.LogItem.{LogItem}
use Rattle.mw_model.specs.declared.requests.Ask.TheVariants as ask
use Rattle.mw_model.specs.Lines.{Asked, AskLoad, AskElement, AskAlone}
use Rattle.mw_model.specs.Scripts.{Turn, refused_unread}
use Rattle.mw_model.specs.Stands.{CoreView, StandsFor, running_count}
use Rattle.mw_core_waves.specs.mw_core_laws.Rows.{IsLogFull}
use Rattle.mw_session_fetch.specs.Errors.{Marks}
use Rattle.mw_session_fetch.specs.mw_wire.Writes.{Wrote}
use Rattle.mw_session.specs.Turns.{TurnMade}

-- Want of memory may have refused the request where it left the core so. A submission asks for more than its place in the log only where no refusal stands before its payload's, RUN and FETCH ask for more, and all others for that place alone.
abbrev pub MayWant : CoreView → Asked → Type 0
MayWant c (AskLoad name bytes) = IsLogFull c ⊎ (refused_unread c.table (AskLoad name bytes) ≡ None)
MayWant c (AskElement name ox oy bytes) = IsLogFull c ⊎ (refused_unread c.table (AskElement name ox oy bytes) ≡ None)
MayWant c (AskAlone (ask.Run name op)) = Unit {0}
MayWant c (AskAlone (ask.Fetch name)) = Unit {0}
MayWant c (AskAlone a) = IsLogFull c

-- One request was answered by this text: a turn from this state, after which the core stands for the state that it leads to, and no task is running.
pub record Answered (m : Machine) (old : CoreView) (r : Asked) (text : List ℕ) (new : CoreView) : Type 0 where
  pub turn : Turn
  pub state : Machine
  pub items : List LogItem
  pub asked : turn.request ≡ r
  pub made : TurnMade m turn text items state
  pub wants : turn.no_memory ≡ true → MayWant new r
  pub stands : StandsFor new state
  pub idle : running_count new ≡ 0
  pub log : new.log ≡ old.log ++ items

-- so it was from each state that the core stands for, where no task was running
abbrev pub ScriptAnswer : CoreView → Asked → List ℕ → CoreView → Type 0
ScriptAnswer old r text new = (m : Machine) → StandsFor old m → running_count old ≡ 0 → Answered m old r text new

-- So a request was answered by some text, the mark was set where that is the line of a refusal, and the text was written, or less of it.
abbrev pub WritesAnswer : {E : Type 0} → CoreView → Asked → CoreView → Bool → Bool → Option (List ℕ) → Option (List ℕ) → Result (Unit {0}) E → Type 0
WritesAnswer old r new was is before after result = (text : List ℕ) × ScriptAnswer old r text new × Marks was text is × Wrote before after text result
