use Rattle.std.proofs.Common.{◌≡◌, ℕ, ◌+◌, ◌-◌, ◌<◌, ◌≤◌, length, take, get_or, flat_map}
use Rattle.std.specs.List.{AllByRecursion}
use Rattle.mw_element_runs.specs.declared.runs.Run.{Run}
use Rattle.mw_element_runs.specs.Runs.{run_offsets, offset_at, IsRun, Continues, AreLongest}
use Rattle.mw_element_runs.proofs.runs.runs_of.Given as goal

abbrev pub invariant-runs : goal.invariant-runs
invariant-runs l = record {
  within : l.at ≤ length l.offsets;
  so_far : flat_map run_offsets l.runs.items ≡ take l.at l.offsets;
  runs : AllByRecursion IsRun l.runs.items;
  longest : AreLongest l.runs.items;
  last : (k : ℕ) (r : Run) → k + 1 ≡ length l.runs.items → l.at < length l.offsets → Continues (get_or l.runs.items k r) (offset_at l.offsets l.at) → ⊥;
}

abbrev pub decreases-runs : goal.decreases-runs
decreases-runs l = length l.offsets - l.at
