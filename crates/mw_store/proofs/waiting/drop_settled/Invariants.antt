use Rattle.std.proofs.Common.{◌≡◌, ℕ, ◌<◌, ◌≤◌, [], length, if◌then◌else◌}
use Rattle.mw_model.specs.Refusals.{is_pending, outcome_at}
use Rattle.mw_store.specs.Waiting.{waiting_at}
use Rattle.mw_store.proofs.waiting.drop_settled.Given as goal

abbrev pub invariant-loop-t : goal.invariant-loop-t
invariant-loop-t l =
    (length l.waiting ≡ length l.fn.waiting)
    × ((k : ℕ) → k < l.t → waiting_at l.waiting k ≡ (if is_pending (outcome_at l.outcomes k) then waiting_at l.fn.waiting k else []))
    × ((k : ℕ) → l.t ≤ k → waiting_at l.waiting k ≡ waiting_at l.fn.waiting k)
