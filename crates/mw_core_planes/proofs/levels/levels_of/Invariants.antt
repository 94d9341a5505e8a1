use Rattle.std.proofs.Common.{◌≡◌, drop}
use Rattle.mw_core_planes.specs.Levels.{levels, levels_from}
use Rattle.mw_core_planes.proofs.levels.levels_of.Given as goal

abbrev pub invariant-loop-k : goal.invariant-loop-k
invariant-loop-k l = levels_from (drop l.k l.plan) l.input l.made.items ≡ levels l.plan l.input
