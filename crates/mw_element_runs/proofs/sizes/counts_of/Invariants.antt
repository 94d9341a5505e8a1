use Rattle.std.proofs.Common.{◌≡◌, ℕ, ◌+◌, ◌≤◌, vec_len, get_or, take}
use Rattle.mw_element_runs.specs.Runs.{runs_as_long}
use Rattle.mw_element_runs.proofs.sizes.counts_of.Given as goal

abbrev pub invariant-loop-i : goal.invariant-loop-i
invariant-loop-i l = (vec_len l.counts ≡ l.longest + 1) × ((n : ℕ) → n ≤ l.longest → get_or l.counts.items n 0 ≡ runs_as_long n (take l.i l.runs))
