use Rattle.std.proofs.Common.{◌≤◌}
use Rattle.mw_element_runs.specs.Ahead.{AllContinue}
use Rattle.mw_element_runs.proofs.runs.count_on.Given as goal

abbrev pub invariant-loop-i : goal.invariant-loop-i
invariant-loop-i l = record {
  few : l.same ≤ l.i;
  all : l.i ≤ l.same → AllContinue l.offsets l.from l.count l.i;
}
