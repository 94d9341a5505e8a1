-- Which values a pending entry still needs, by the columns of the table.
use Rattle.std.specs.Prelude.{ℕ, ◌&&◌, Bool, nat_eq, List, length, count_by, slice_index_or, Option, if◌then◌else◌}
use Rattle.std.specs.List.{list_any, range_with_len}
use Rattle.mw_model.specs.declared.submissions.Submission.{Submission}
use Rattle.mw_model.specs.declared.submissions.Inputs.{Inputs}
use Rattle.mw_model.specs.declared.calls.Outcome.{Outcome}
use Rattle.mw_model.specs.Values.{option_list, tickets}
use Rattle.mw_model.specs.Refusals.{is_pending, is_released, outcome_at, submission_at}

-- 1 where it is so, else 0
abbrev pub one_if : Bool → ℕ
one_if b = if b then 1 else 0

-- the ticket stands in the place of an input
abbrev pub is_at : Option ℕ → ℕ → Bool
is_at input t = list_any (nat_eq t) (option_list input)

-- the ticket is one of the inputs
abbrev pub is_among : Inputs → ℕ → Bool
is_among inputs t = list_any (nat_eq t) (tickets inputs)

-- entry u is pending and has the ticket as an input
abbrev pub waits_for : List Submission → List Outcome → ℕ → ℕ → Bool
waits_for submissions outcomes t u = is_pending (outcome_at outcomes u) && is_among (submission_at submissions u).inputs t

-- how many pending entries have the ticket as an input
abbrev pub wanted_by : List Submission → List Outcome → ℕ → ℕ
wanted_by submissions outcomes t = count_by (waits_for submissions outcomes t) (range_with_len 0 (length outcomes))

-- the ticket is released, and none is counted that has it as an input
abbrev pub spent_by : List Outcome → List ℕ → ℕ → Bool
spent_by outcomes counts t = is_released (outcome_at outcomes t) && nat_eq (slice_index_or counts t 0) 0
