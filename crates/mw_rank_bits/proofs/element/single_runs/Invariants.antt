use Rattle.std.proofs.Common.{◌≡◌, map, take}
use Rattle.mw_rank_bits.specs.Elements.{single_run}
use Rattle.mw_rank_bits.proofs.element.single_runs.Given as goal

abbrev pub invariant-loop-i : goal.invariant-loop-i
invariant-loop-i l = l.runs.items ≡ map single_run (take l.i l.offsets)
