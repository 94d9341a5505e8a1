use Rattle.std.proofs.Common.{ℕ, ◌≤◌, take}
use Rattle.std.specs.List.{AllByRecursion}
use Rattle.mw_offset.specs.mw_element_runs.declared.runs.Run.{Run}
use Rattle.mw_bits.proofs.sizes.longest_of.Given as goal

abbrev pub invariant-loop-i : goal.invariant-loop-i
invariant-loop-i l = record {
  all : AllByRecursion (λ (r : Run). r.count ≤ l.longest) (take l.i l.runs);
  least : (n : ℕ) → AllByRecursion (λ (r : Run). r.count ≤ n) l.runs → l.longest ≤ n;
}
