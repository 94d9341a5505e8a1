use Rattle.std.proofs.Common.{◌≡◌, ℕ, ◌+◌, ◌*◌, ◌∙◌, ◌++◌, [], ◌∷◌, List, length, ap, arith}
use Rattle.mw_model.proofs.mw_facts.Elements.{take-written}
use Rattle.mw_core_sums.specs.Trees.{leaves}
use Rattle.mw_core_sums.proofs.Leaves.{leaves-push}
use Rattle.mw_core_sums.proofs.sums.Sums.push.Goals as goal

pub returns : goal.returns
returns c =
    let a = c.self.inside in
    let room = c.in_ok-self-inside.field-0 in
    let given = c.in_ok-self-inside.ensures in
    let held = c.make_room.new.tree in
    let old = c.deref_mut.result.now in
    let new = c.write.new.tree in
    let value = c.deref_mut.ensures.value in
    let size : length old ≡ 2 * room = ap (λ (xs : List ℕ). length xs) value ∙ given.uses.tree.size in
    let back = take-written held.items new held.len (let ok = held.ok in omega (arith, c.write.ensures.tree.size, given.uses.tree.size)) in
    ap (λ (xs : List ℕ). leaves xs room (a.len + 1)) back
    ∙ leaves-push old new room a.len c.args.number size c.write.ensures.tree.size given.room c.write.ensures.here c.write.ensures.others
    ∙ ap (λ (xs : List ℕ). xs ++ c.args.number ∷ []) (ap (λ (xs : List ℕ). leaves xs room a.len) value ∙ given.same ∙ c.self.view_is)
