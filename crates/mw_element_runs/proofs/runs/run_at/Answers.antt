use Rattle.std.proofs.Common.{◌≡◌, ◌+◌, pos, ℤ, true, false, arith, refl, sym, ◌∙◌, to_z, of_z, w16}
use Rattle.std.proofs.lemmas.Int.{ints}
use Rattle.mw_model.specs.declared.offsets.Offset.{Offset}
use Rattle.mw_element_runs.specs.Runs.{offset_at}
use Rattle.mw_element_runs.proofs.Ahead.{run_many}
use Rattle.mw_element_runs.proofs.RunLists.{run_more, offset_is}
use Rattle.mw_element_runs.proofs.runs.run_at.Goals as goal

pub on-preserved : goal.on-preserved
on-preserved c =
    let none : Offset = record { dx = pos 0; dy = pos 0 } in
    let offsets = c.args.offsets.now in
    let first = offset_at offsets c.args.from in
    let next = c.goes_on.ensures.next.0 c.on-test.true in
    record {
      some = omega arith;
      few = omega (arith, c.goes_on.ensures.few c.on-test.true);
      room = omega (arith, next.0);
      same = run_more offsets c.args.from c.on.count (c.on.count + 1) first.dx first.dy none refl next.0 next.1.dx next.1.dy c.on.invariant.same;
    }

pub returns-clause-first : goal.returns-clause-first
returns-clause-first c =
    let first = offset_at c.args.offsets.now c.args.from in
    let dx : ℤ = to_z w16 (of_z w16 first.dx) in
    let dy : ℤ = to_z w16 (of_z w16 first.dy) in
    let dx-is : dx ≡ first.dx = omega (arith, ints) in
    let dy-is : dy ≡ first.dy = omega (arith, ints) in
    offset_is first dx dy (sym dx-is) (sym dy-is)

pub returns-clause-longest : goal.returns-clause-longest
returns-clause-longest c = λ less onward.
    let first = offset_at c.args.offsets.now c.args.from in
    let dx : ℤ = to_z w16 (of_z w16 first.dx) in
    let dy : ℤ = to_z w16 (of_z w16 first.dy) in
    let dx-is : dx ≡ first.dx = omega (arith, ints) in
    let dy-is : dy ≡ first.dy = omega (arith, ints) in
    let yes = c.goes_on.ensures.next.1 (less, record { dx = omega (arith, ints, onward.dx, dx-is); dy = omega (arith, ints, onward.dy, dy-is) }) in
    let clash : true ≡ false = sym yes ∙ c.on-test.false in cc

pub many-preserved : goal.many-preserved
many-preserved c =
    let room = c.many_go_on.ensures.room c.many-test.true in
    record {
      some = omega arith;
      few = omega (arith, c.many_go_on.ensures.few c.many-test.true);
      room = omega (arith, room);
      same = run_many c.args.offsets.now c.args.from c.many.count 16 (c.many_go_on.ensures.next c.many-test.true) room c.many.invariant.same;
    }
