-- What is counted of a session while it is answered (own).
use Rattle.std.specs.Prelude.{◌≡◌, ◌+◌, ℕ, Bool, min, List, [], ◌∷◌, length, Option, Result, Ok, Err}
use Rattle.std.specs.List.{concat, list_any}
use Rattle.mw_model.specs.declared.requests.End.{End}
use Rattle.mw_model.specs.Lines.{Asked}
use Rattle.mw_model.specs.Machine.{Machine}
use Rattle.mw_model.specs.Scripts.{Turn, IsTurn}
use Rattle.mw_model.specs.Stands.{CoreView}
use Rattle.mw_session_fetch.specs.Errors.{Marks, is_error_line}
use Rattle.mw_session_fetch.specs.mw_wire.declared.fault.SessionFault.{SessionFault}
use Rattle.mw_session.specs.declared.tally.Tally.{Tally}
use Rattle.mw_session.specs.Answering.{ScriptAnswer}
use Rattle.mw_session.specs.Budgets.{KeepsCount}
use Rattle.mw_session.specs.Runs.{SessionRan}

-- the greatest line number that is told
abbrev pub last_line : ℕ
last_line = 18446744073709551615

-- One request was answered by this text, the mark tells whether that is a refusal's, its line was counted, and the budget has taken what the core is counted as.
pub record Tallied (old : Tally) (r : Asked) (text : List ℕ) (new : Tally) : Type 0 where
  pub answer : ScriptAnswer old.core r text new.core
  pub marks : Marks old.refused text new.refused
  pub counted : new.line ≡ min (old.line + 1) last_line
  pub keeps : KeepsCount old.core old.budget new.core new.budget

-- these turns, one after another, go from one state to the other, and these are their replies
abbrev pub AreReplies : Machine → List Turn → List (List ℕ) → Machine → Type 0
AreReplies m [] [] n = n ≡ m
AreReplies m [] (x ∷ xs) n = ⊥
AreReplies m (t ∷ ts) [] n = ⊥
AreReplies m (t ∷ ts) (x ∷ xs) n = (mid : Machine) × IsTurn m t x mid × AreReplies mid ts xs n

-- the number of the line behind these turns, of the lines of requests
abbrev pub line_behind : List Turn → ℕ
line_behind turns = min (1 + length turns) last_line

-- some reply is the line of a refusal
abbrev pub has_refusal : List (List ℕ) → Bool
has_refusal replies = list_any is_error_line replies

-- These turns were made from one state to another, and this is their text, reply by reply. The tally tells the line behind them, and whether a reply is a refusal.
pub record Counted (tally : Tally) (m n : Machine) (turns : List Turn) (text : List ℕ) : Type 0 where
  pub replies : List (List ℕ)
  pub answered : AreReplies m turns replies n
  pub whole : text ≡ concat replies
  pub line : tally.line ≡ line_behind turns
  pub refused : tally.refused ≡ has_refusal replies

-- a session that came to an end was counted so
abbrev pub IsCounted : {m : Machine} {old new : CoreView} {had left before after : Option (List ℕ)} (result : Result End SessionFault) → SessionRan m old new had left before after result → Tally → Type 0
IsCounted {m} (Ok e) s tally = Counted tally m s.state s.ran.turns s.ran.text
IsCounted {m} (Err f) s tally = Unit {0}
