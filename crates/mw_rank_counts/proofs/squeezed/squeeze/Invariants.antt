use Rattle.std.proofs.Common.{◌≡◌, ℕ, ◌+◌, ◌*◌, ◌<◌, get_or}
use Rattle.mw_rank_counts.specs.Squeezed.{squeezed}
use Rattle.mw_rank_counts.proofs.squeezed.squeeze.Given as goal

abbrev pub invariant-loop-q : goal.invariant-loop-q
invariant-loop-q l = (j i : ℕ) → j < l.q → i < 32 → get_or l.bytes (j * 32 + i) 0 ≡ squeezed l.rest (get_or l.found i 0) (get_or l.samples (get_or l.places j 0 + i) 0)
