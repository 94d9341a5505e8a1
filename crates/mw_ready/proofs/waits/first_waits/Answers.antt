use Rattle.std.proofs.Common.{◌≡◌, ℕ, ◌+◌, ◌≤◌, List, length, subst, sym, ap, arith, get_or}
use Rattle.std.proofs.Math.Nat.{mul-le-mul_left}
use Rattle.mw_model.proofs.mw_facts.Elements.{take-written}
use Rattle.mw_grid.specs.Grids.{tile_count}
use Rattle.mw_ready.specs.Boards.{no_need}
use Rattle.mw_ready.proofs.Firsts.{CountsWaits, waits-most, waits-next, waits-room}
use Rattle.mw_ready.proofs.waits.first_waits.Goals as goal

pub raise_step-requires-clause-fits : goal.raise_step-requires-clause-fits
raise_step-requires-clause-fits c = λ u lt.
    let a = c.args in
    let same : get_or c.deref_mut.result.now u 0 ≡ get_or c.loop-k.waits.items u 0 = ap (λ (xs : List ℕ). get_or xs u 0) c.deref_mut.ensures.value in
    let most = waits-most a.needs.now a.grid (length a.needs.now) c.loop-k.k u c.loop-k.waits.items c.loop-k.invariant in
    let room = waits-room a.grid (get_or a.needs.now c.loop-k.k no_need).reach c.set_met_by.new.self (length a.needs.now) c.steps_read.result u c.requires (omega (arith, c.steps_read.ensures.most)) (omega (arith, c.len.ensures.value, c.len.ensures.small)) c.set_met_by.ensures in
    omega (arith, same, most, room)

pub raise_step-requires-clause-within : goal.raise_step-requires-clause-within
raise_step-requires-clause-within c =
    let size : length c.deref_mut.result.now ≡ length c.loop-k.waits.items = ap (λ (xs : List ℕ). length xs) c.deref_mut.ensures.value in
    let next : c.loop-k.k + 1 ≤ length c.args.needs.now = omega (arith, c.loop-k-test.true) in
    omega (arith, size, c.loop-k.invariant.size, mul-le-mul_left (tile_count c.args.grid) next)

pub loop-k-preserved : goal.loop-k-preserved
loop-k-preserved c =
    let a = c.args in
    let k = c.loop-k.k in
    let old = c.loop-k.waits in
    let new = c.raise_step.new.counts in
    let value = c.deref_mut.ensures.value in
    let size : length c.deref_mut.result.now ≡ length old.items = ap (λ (xs : List ℕ). length xs) value in
    let back = take-written old.items new old.len (let ok = old.ok in omega (arith, c.raise_step.ensures.size)) in
    subst (CountsWaits a.needs.now a.grid (length a.needs.now) (k + 1)) (sym back)
    (waits-next a.needs.now a.grid c.set_met_by.new.self (length a.needs.now) k c.steps_read.result c.deref_mut.result.now new c.loop-k-test.true c.steps_read.ensures.value c.set_met_by.ensures
    (subst (CountsWaits a.needs.now a.grid (length a.needs.now) k) (sym value) c.loop-k.invariant) c.raise_step.ensures)
