use Rattle.std.proofs.Common.{◌≡◌, ℕ, ◌≤◌, false, take}
use Rattle.mw_model.specs.Plans.{numbers_from}
use Rattle.mw_model.specs.Tasks.{flag}
use Rattle.mw_c_direct.specs.Runs.{HasRun, planes_on}
use Rattle.mw_c_direct.proofs.running.numbers.Given as goal

abbrev pub invariant-steps : goal.invariant-steps
invariant-steps l = record {
  run : HasRun l.plan l.image l.run.made.items l.run.planes.items;
  unmade : (i : ℕ) → l.k ≤ i → flag l.run.made.items i ≡ false;
  numbers : l.numbers.items ≡ numbers_from (take l.k l.plan) (planes_on l.plan l.image);
}
