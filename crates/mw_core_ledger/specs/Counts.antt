-- Counts of the tasks of a core, and when they are right.
use Rattle.std.specs.Prelude.{ℕ, ◌≡◌, ◌<◌, ◌++◌, ◌∷◌, ◌&&◌, [], true, nat_eq, List, length, map}
use Rattle.std.specs.List.{list_any, range_with_len}
use Rattle.mw_model.specs.Refusals.{outcome_at, is_pending}
use Rattle.mw_model.specs.Stands.{CoreView, inputs_of, ready_under, running_count}
use Rattle.mw_core_ledger.specs.Books.{Book}

-- How many tasks of each ticket are ready, and how many of all are running.
pub record Tally : Type 0 where
  pub ready : List ℕ
  pub running : ℕ

-- nothing is counted
abbrev pub no_counts : Tally
no_counts = record { ready = []; running = 0 }

-- one ticket more, without tasks
abbrev pub tally_grown : Tally → Tally
tally_grown k = record k { ready = k.ready ++ 0 ∷ [] }

-- the counts are those of what the core shows
abbrev pub AreCounts : CoreView → Tally → Type 0
AreCounts c k = (k.ready ≡ map (ready_under c) (range_with_len 0 (length c.table.names))) × (k.running ≡ running_count c)

-- among these are all pending entries that have the ticket as an input
abbrev pub WaitFor : Book → ℕ → List ℕ → Type 0
WaitFor b t waiters =
    (u : ℕ) → u < length b.table.names → (is_pending (outcome_at b.table.outcomes u) && list_any (nat_eq t) (inputs_of b.table u)) ≡ true → list_any (nat_eq u) waiters ≡ true
