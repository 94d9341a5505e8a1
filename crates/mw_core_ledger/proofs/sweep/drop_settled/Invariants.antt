use Rattle.std.proofs.Common.{◌≡◌, ℕ, ◌<◌, ◌≤◌, length, None, if◌then◌else◌, slice_index_or}
use Rattle.mw_model.specs.Refusals.{is_pending, outcome_at}
use Rattle.mw_core_ledger.proofs.sweep.drop_settled.Given as goal

abbrev pub invariant-loop-t : goal.invariant-loop-t
invariant-loop-t l =
    (length l.in_progress ≡ length l.fn.in_progress)
    × ((k : ℕ) → k < l.t → slice_index_or l.in_progress k None ≡ (if is_pending (outcome_at l.store.table.outcomes k) then slice_index_or l.fn.in_progress k None else None))
    × ((k : ℕ) → l.t ≤ k → slice_index_or l.in_progress k None ≡ slice_index_or l.fn.in_progress k None)
