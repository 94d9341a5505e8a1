use Rattle.std.proofs.Common.{◌*◌, ◌-◌}
use Rattle.mw_core_sums.proofs.Nodes.{Holds}
use Rattle.mw_core_sums.proofs.tree.descend.Given as goal

abbrev pub invariant-loop-node : goal.invariant-loop-node
invariant-loop-node l = Holds l.tree l.room l.node l.rest l.position

abbrev pub decreases-loop-node : goal.decreases-loop-node
decreases-loop-node l = 2 * l.room - l.node
