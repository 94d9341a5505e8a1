use Rattle.std.proofs.Common.{◌≡◌, ℕ, ◌<◌, ◌≤◌, length, None, if◌then◌else◌, slice_index_or}
use Rattle.mw_store.specs.Wanted.{spent_by}
use Rattle.mw_store.proofs.spent.drop_spent.Given as goal

abbrev pub invariant-loop-t : goal.invariant-loop-t
invariant-loop-t l =
    (length l.kept ≡ length l.fn.kept)
    × ((k : ℕ) → k < l.t → slice_index_or l.kept k None ≡ (if spent_by l.outcomes l.wanted k then None else slice_index_or l.fn.kept k None))
    × ((k : ℕ) → l.t ≤ k → slice_index_or l.kept k None ≡ slice_index_or l.fn.kept k None)
