use Rattle.std.proofs.Common.{◌+◌, ◌*◌, arith}
use Rattle.mw_core_sums.proofs.Nodes.{node_small}
use Rattle.mw_core_sums.proofs.tree.mend.Goals as goal

pub overflow_add-tree-in-loop-node : goal.overflow_add-tree-in-loop-node
overflow_add-tree-in-loop-node c =
    let a = c.args in
    let t = c.loop-node.tree in
    let node = c.loop-node.node in
    let now = c.loop-node.invariant in
    let size = c.loop-node.auto.tree in
    let some = c.loop-node-test.true in
    let left = node_small t a.room (2 * node) c.requires.few (omega (arith, some)) (omega (arith, now.low)) (λ r from to. now.sums r (omega (arith, some)) to (λ e. absurd (omega (arith, some)))) (λ j lt. omega (arith, now.leaves j, c.requires.small j lt)) in
    let right = node_small t a.room (2 * node + 1) c.requires.few (omega arith) (omega (arith, now.low)) (λ r from to. now.sums r (omega arith) to (λ e. absurd (omega arith))) (λ j lt. omega (arith, now.leaves j, c.requires.small j lt)) in
    omega arith
