use Rattle.std.proofs.Common.{take}
use Rattle.std.specs.List.{AllByRecursion}
use Rattle.mw_element_runs.specs.declared.runs.Extent.{Extent}
use Rattle.mw_element_runs.specs.Runs.{IsWider, RunIsInside}
use Rattle.mw_element_runs.proofs.runs.extent_of.Given as goal

abbrev pub invariant-loop-i : goal.invariant-loop-i
invariant-loop-i l = record {
  inside : AllByRecursion (RunIsInside l.extent) (take l.i l.runs);
  least : (o : Extent) → AllByRecursion (RunIsInside o) l.runs → IsWider o l.extent;
}
