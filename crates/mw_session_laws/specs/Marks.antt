-- Turns without marks of memory, what they and a log tell of kills, and logs of work alone that leaves nothing (own).
use Rattle.std.specs.Prelude.{◌≡◌, ◌≢◌, ◌<◌, ℕ, false, length, take, List, [], ◌∷◌, ◌++◌}
use Rattle.mw_model.specs.declared.codes.Code.TheVariants as code
use Rattle.mw_model.specs.declared.calls.LogItem.{LogItem}
use Rattle.mw_model.specs.declared.calls.LogItem.TheVariants as item
use Rattle.mw_model.specs.declared.calls.Outcome.TheVariants.{Pending}
use Rattle.mw_model.specs.Machine.{Machine}
use Rattle.mw_model.specs.Refusals.{Table, outcome_at}
use Rattle.mw_model.specs.Replies.{refusal_text}
use Rattle.mw_model.specs.Scripts.{Turn, AreTurns}

-- want of memory did nothing in these turns
abbrev pub NoMarks : List Turn → Type 0
NoMarks [] = Unit {0}
NoMarks (t ∷ ts) = (t.kills ≡ []) × (t.no_memory ≡ false) × NoMarks ts

-- the tickets that want of memory killed in these turns, in order
abbrev pub kills_of : List Turn → List ℕ
kills_of [] = []
kills_of (t ∷ ts) = t.kills ++ kills_of ts

-- the tickets that a log tells to be killed for want of memory
abbrev pub killed_in : List LogItem → List ℕ
killed_in [] = []
killed_in (item.Killed t ∷ items) = t ∷ killed_in items
killed_in (item.Finished t ∷ items) = killed_in items
killed_in (item.Call c r ∷ items) = killed_in items

-- the log tells of work alone, and of no call
abbrev pub OnlyWork : List LogItem → Type 0
OnlyWork [] = Unit {0}
OnlyWork (item.Call c r ∷ items) = ⊥
OnlyWork (item.Finished t ∷ items) = OnlyWork items
OnlyWork (item.Killed t ∷ items) = OnlyWork items

-- none of these turns wrote the text of a 50
abbrev pub NoneSaysMemory : (ts : List Turn) (m n : Machine) (text : List ℕ) → AreTurns m ts text n → Type 0
NoneSaysMemory [] m n text a = Unit {0}
NoneSaysMemory (t ∷ ts) m n text a = (a.1 ≢ refusal_text code.Memory) × NoneSaysMemory ts a.0 n a.2 a.4

-- the text is a front of what these turns write and that of a 50, which ended the session there
abbrev pub EndsInMemory : Machine → List Turn → Machine → List ℕ → Type 0
EndsInMemory m ts n text = (said : List ℕ) × AreTurns m ts said n × (k : ℕ) × (text ≡ take k (said ++ refusal_text code.Memory))

-- no work waits: no entry is pending
abbrev pub NothingWaits : Table → Type 0
NothingWaits w = (t : ℕ) → t < length w.names → outcome_at w.outcomes t ≢ Pending
