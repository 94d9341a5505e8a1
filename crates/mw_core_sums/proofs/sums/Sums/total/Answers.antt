use Rattle.std.proofs.Common.{◌∙◌, ◌≤◌, ap, sum, arith}
use Rattle.std.proofs.lemmas.List.{get_or_default}
use Rattle.mw_core_sums.proofs.Leaves.{root_is}
use Rattle.mw_core_sums.proofs.sums.Sums.total.Goals as goal

pub returns-else-self-eq0 : goal.returns-else-self-eq0
returns-else-self-eq0 c =
    let a = c.self.inside in
    let some : 1 ≤ a.room = omega (arith, c.if-self-eq0.false) in
    c.index.ensures ∙ get_or_default a.tree.items 1 c.index.result.now 0 (omega (arith, c.self.invariant.tree.size)) ∙ root_is a.tree.items a.room a.len c.self.invariant some ∙ ap sum c.self.view_is
