use Rattle.std.proofs.Common.{ℕ, ◌+◌, ◌∙◌, List, ap, sym, get_or, arith}
use Rattle.mw_core_sums.proofs.Leaves.{power_twice, leaves-same}
use Rattle.mw_core_sums.proofs.tree.make_room.Goals as goal

pub wider-requires-clause-power : goal.wider-requires-clause-power
wider-requires-clause-power c = power_twice c.args.room c.max-more.result c.requires.uses.tree.power c.max-more.ensures

pub returns-clause-same : goal.returns-clause-same
returns-clause-same c =
    let a = c.args in
    let made = c.in_ok-tree.field-0 in
    sym (leaves-same a.tree.now.items made.items a.room c.max-more.result a.len c.requires.uses.tree.size c.in_ok-tree.ensures.tree.size c.requires.uses.within (omega (arith, c.max-more.ensures, c.requires.uses.within))
    (λ j lt. sym (c.in_ok-tree.ensures.same j (omega (arith, c.requires.uses.within)) ∙ ap (λ (xs : List ℕ). get_or xs (a.room + j) 0) c.deref.ensures.value)))
