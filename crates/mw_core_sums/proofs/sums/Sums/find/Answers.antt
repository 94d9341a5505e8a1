use Rattle.std.proofs.Common.{◌≡◌, ℕ, ◌<◌, ◌∙◌, List, sum, ap, sym, subst, get_or, arith}
use Rattle.mw_core_sums.proofs.Leaves.{root_is, room_some, span-found}
use Rattle.mw_core_sums.proofs.sums.Sums.find.Goals as goal

pub descend-place-requires-clause-inside : goal.descend-place-requires-clause-inside
descend-place-requires-clause-inside c =
    let a = c.self.inside in
    let some = room_some a.tree.items a.room a.len c.args.position c.self.invariant (subst (λ (xs : List ℕ). c.args.position < sum xs) (sym c.self.view_is) c.requires) in
    let root : get_or c.deref.result.now 1 0 ≡ sum c.args.self.now = ap (λ (xs : List ℕ). get_or xs 1 0) c.deref.ensures.value ∙ root_is a.tree.items a.room a.len c.self.invariant some ∙ ap sum c.self.view_is in
    omega (arith, c.requires)

pub returns-clause-before : goal.returns-clause-before
returns-clause-before c =
    let a = c.self.inside in
    let d = c.descend-place in
    let f = span-found a.tree.items c.deref.result.now c.args.self.now a.room a.len d.result.0 d.result.1 c.args.position c.self.invariant c.deref.ensures.value c.self.view_is d.ensures.place d.ensures.here d.ensures.before in
    omega (arith, f.0)

pub returns-clause-here : goal.returns-clause-here
returns-clause-here c =
    let a = c.self.inside in
    let d = c.descend-place in
    let f = span-found a.tree.items c.deref.result.now c.args.self.now a.room a.len d.result.0 d.result.1 c.args.position c.self.invariant c.deref.ensures.value c.self.view_is d.ensures.place d.ensures.here d.ensures.before in
    omega (arith, f.0, f.1)

pub returns-clause-rest : goal.returns-clause-rest
returns-clause-rest c =
    let a = c.self.inside in
    let d = c.descend-place in
    let f = span-found a.tree.items c.deref.result.now c.args.self.now a.room a.len d.result.0 d.result.1 c.args.position c.self.invariant c.deref.ensures.value c.self.view_is d.ensures.place d.ensures.here d.ensures.before in
    omega (arith, f.0)
