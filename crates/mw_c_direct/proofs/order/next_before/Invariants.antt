use Rattle.std.proofs.Common.{ℕ, ◌≤◌}
use Rattle.mw_c_direct.specs.Runs.{CanBeNext}
use Rattle.mw_c_direct.proofs.order.next_before.Given as goal

abbrev pub invariant-steps : goal.invariant-steps
invariant-steps l = record {
  within : l.place ≤ l.k;
  later : (i : ℕ) → l.place ≤ i → CanBeNext l.plan l.made l.k i → ⊥;
}

abbrev pub decreases-steps : goal.decreases-steps
decreases-steps l = l.place
