-- What a turn leaves in the log, and which requests want of memory may refuse (own).
use Rattle.std.specs.Prelude.{◌≡◌, ◌≢◌, Bool, true, false, ℕ, None, List, [], ◌∷◌, ◌++◌}
use Rattle.mw_model.specs.declared.calls.Call.{Call}
use Rattle.mw_model.specs.declared.calls.Call.TheVariants as call
use Rattle.mw_model.specs.declared.calls.LogItem.{LogItem}
use Rattle.mw_model.specs.declared.calls.LogItem.TheVariants as item
use Rattle.mw_model.specs.declared.calls.Reply.{Reply}
use Rattle.mw_model.specs.declared.requests.Ask.TheVariants as ask
use Rattle.mw_model.specs.Lines.{Asked, AskAlone, Begins}
use Rattle.mw_model.specs.Machine.{Machine}
use Rattle.mw_model.specs.Receipts.{IsCallFor, MayFail}
use Rattle.mw_model.specs.Refusals.{refusal}
use Rattle.mw_model.specs.Scripts.{Turn, IsTurn, NoQuit, requests, runs_work}
use Rattle.mw_core_waves.specs.mw_session_laws.Marks.{OnlyWork, killed_in}

-- the log tells of the work before a request, these kills among it; nothing, where no work is run
abbrev pub TellsWork : Bool → List ℕ → List LogItem → Type 0
TellsWork true kills items = OnlyWork items × (killed_in items ≡ kills)
TellsWork false kills items = items ≡ []

-- The log tells of the request itself: its one call with the reply, or nothing, where want of memory refused it. What is marked and told all the same is a call whose text found no memory.
pub data TellsCall (t : Turn) (items : List LogItem) : Type 0 where
  logged : (c : Call) (r : Reply) → IsCallFor t.request c → (t.no_memory ≡ true → MayFail r) → items ≡ item.Call c r ∷ [] → TellsCall t items
  unlogged : t.no_memory ≡ true → items ≡ [] → TellsCall t items

-- The log tells of the turn exactly this: its work, and then its one call.
pub record TellsTurn (t : Turn) (items : List LogItem) : Type 0 where
  pub before : List LogItem
  pub call : List LogItem
  pub all : items ≡ before ++ call
  pub work : TellsWork (runs_work t.request) t.kills before
  pub calls : TellsCall t call

-- want of memory may refuse the request here: it is no CANCEL that the machine accepts
abbrev pub MayLack : Machine → Asked → Type 0
MayLack m (AskAlone (ask.Cancel name)) = refusal m.table m.payloads (call.Cancel name) ≢ None
MayLack m r = Unit {0}

-- A turn was made: it writes this text, and leaves this in the log.
pub record TurnMade (m : Machine) (t : Turn) (text : List ℕ) (items : List LogItem) (n : Machine) : Type 0 where
  pub made : IsTurn m t text n
  pub tells : TellsTurn t items
  pub lacks : t.no_memory ≡ true → MayLack m t.request

-- so were these turns, one after another
abbrev pub TurnsMade : Machine → List Turn → List ℕ → List LogItem → Machine → Type 0
TurnsMade m [] text items n = (text ≡ []) × (items ≡ []) × (n ≡ m)
TurnsMade m (t ∷ ts) text items n =
    (mid : Machine) × (front rest : List ℕ) × (mine more : List LogItem) × TurnMade m t front mine mid × TurnsMade mid ts rest more n × (text ≡ front ++ rest) × (items ≡ mine ++ more)

-- The bytes are the requests of these turns, and then this rest. The turns were made from one state to another, wrote this text and left this in the log.
pub record HasServed (bytes : List ℕ) (turns : List Turn) (rest : List ℕ) (m : Machine) (text : List ℕ) (items : List LogItem) (n : Machine) : Type 0 where
  pub cut : Begins bytes (requests turns) rest
  pub open_still : NoQuit turns
  pub turns_made : TurnsMade m turns text items n
