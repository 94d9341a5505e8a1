use Rattle.std.proofs.Common.{◌≡◌, ℕ, length, count_by, slice_index_or}
use Rattle.std.specs.List.{range_with_len}
use Rattle.mw_store.specs.Wanted.{waits_for}
use Rattle.mw_store.proofs.wanted.count_wanted.Given as goal

abbrev pub invariant-loop-u : goal.invariant-loop-u
invariant-loop-u l =
    (length l.wanted ≡ length l.fn.wanted)
    × ((k : ℕ) → slice_index_or l.wanted k 0 ≡ count_by (waits_for l.submissions l.outcomes k) (range_with_len 0 l.u))
