use Rattle.std.proofs.Common.{◌≡◌, ℕ, ◌+◌, ◌-◌, ◌*◌, ◌<◌, ◌≤◌, ap, subst, arith, get_or}
use Rattle.mw_core_sums.proofs.Nodes.{Holds, goes_down, at_leaf}
use Rattle.mw_core_sums.proofs.tree.descend.Goals as goal

twice : (k : ℕ) → 2 * k ≡ k * 2
twice k = omega arith

pub loop-node-preserved-then-rest-left : goal.loop-node-preserved-then-rest-left
loop-node-preserved-then-rest-left c =
    let a = c.args in
    let l = c.loop-node in
    let le : get_or a.tree.now (2 * l.node) 0 ≤ l.rest = omega (arith, c.if-rest-left.true, ap (λ (k : ℕ). get_or a.tree.now k 0) (twice l.node)) in
    subst (λ (k : ℕ). Holds a.tree.now a.room (k + 1) (l.rest - get_or a.tree.now k 0) a.position) (twice l.node) ((goes_down a.tree.now a.room l.node l.rest a.position c.requires.tree c.loop-node-test.true l.invariant).1 le)

pub loop-node-preserved : goal.loop-node-preserved
loop-node-preserved c =
    let a = c.args in
    let l = c.loop-node in
    let lt : l.rest < get_or a.tree.now (2 * l.node) 0 = omega (arith, c.if-rest-left.false, ap (λ (k : ℕ). get_or a.tree.now k 0) (twice l.node)) in
    subst (λ (k : ℕ). Holds a.tree.now a.room k l.rest a.position) (twice l.node) ((goes_down a.tree.now a.room l.node l.rest a.position c.requires.tree c.loop-node-test.true l.invariant).0 lt)

pub returns-clause-before : goal.returns-clause-before
returns-clause-before c = (at_leaf c.args.tree.now c.args.room c.loop-node.node c.loop-node.rest c.args.position c.loop-node-test.false c.loop-node.invariant).1
