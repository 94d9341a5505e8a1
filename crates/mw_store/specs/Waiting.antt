-- Which entries wait for each ticket.
use Rattle.std.specs.Prelude.{ℕ, ◌≡◌, ◌<◌, true, nat_eq, List, [], ◌∷◌, ◌++◌, length, slice_index_or, Option, if◌then◌else◌}
use Rattle.std.specs.List.{AllByRecursion, list_any}
use Rattle.mw_model.specs.declared.submissions.Submission.{Submission}
use Rattle.mw_model.specs.declared.submissions.Inputs.{Inputs}
use Rattle.mw_model.specs.declared.calls.Outcome.{Outcome}
use Rattle.mw_model.specs.Refusals.{is_pending, outcome_at}
use Rattle.mw_store.specs.Wanted.{is_at, waits_for}

-- The tickets of some entries, and the room for more of them.
pub record Waiting : Type 0 where
  pub tickets : List ℕ
  pub room : ℕ

-- no entry, and no room
abbrev pub no_waiting : Waiting
no_waiting = record { tickets = []; room = 0 }

-- the entries that stand in the list of a ticket
abbrev pub waiting_at : List Waiting → ℕ → List ℕ
waiting_at lists t = (slice_index_or lists t no_waiting).tickets

-- the room that is left in the list of a ticket
abbrev pub room_at : List Waiting → ℕ → ℕ
room_at lists t = (slice_index_or lists t no_waiting).room

-- the entry, where the ticket stands in the place of an input
abbrev pub entry_if : Option ℕ → ℕ → ℕ → List ℕ
entry_if input u t = if is_at input t then u ∷ [] else []

-- the entry, once for each place of an input in which the ticket stands
abbrev pub entry_for : Inputs → ℕ → ℕ → List ℕ
entry_for inputs u t = entry_if inputs.a u t ++ entry_if inputs.b u t ++ entry_if inputs.c u t

-- Each entry that waits for a pending ticket stands in its list, and all that stand there are entries.
pub record KnowsWaiting (submissions : List Submission) (outcomes : List Outcome) (lists : List Waiting) : Type 0 where
  pub all : (t u : ℕ) → t < length outcomes → is_pending (outcome_at outcomes t) ≡ true → u < length outcomes → waits_for submissions outcomes t u ≡ true → list_any (nat_eq u) (waiting_at lists t) ≡ true
  pub below : (t : ℕ) → AllByRecursion (λ u. u < length outcomes) (waiting_at lists t)
