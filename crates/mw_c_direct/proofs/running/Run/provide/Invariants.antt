use Rattle.std.proofs.Common.{◌≡◌, ℕ, ◌≤◌}
use Rattle.mw_model.specs.Tasks.{flag}
use Rattle.mw_c_direct.specs.Runs.{HasRun}
use Rattle.mw_c_direct.proofs.Steps.{left}
use Rattle.mw_c_direct.proofs.running.Run.provide.Given as goal

abbrev pub invariant-steps : goal.invariant-steps
invariant-steps l = record {
  run : HasRun l.plan l.image l.self.made.items l.self.planes.items;
  later : (i : ℕ) → l.k ≤ i → flag l.self.made.items i ≡ flag l.fn.self.made.items i;
}

abbrev pub decreases-steps : goal.decreases-steps
decreases-steps l = left l.self.made.items
