use Rattle.std.proofs.Common.{neg_ℤ, arith, sym, ◌∙◌}
use Rattle.std.proofs.lemmas.Int.{ints}
use Rattle.mw_model.specs.Rectangles.{nonnegative}
use Rattle.mw_step_task.proofs.Boxes.{reach_of_none, reach_of_some, same_reach}
use Rattle.mw_step_task.proofs.offsets.reach_of_box.Goals as goal

pub returns-then-b : goal.returns-then-b
returns-then-b c = c.no_reach.ensures ∙ sym (reach_of_none c.args.b (λ o inside. let low = inside.left in let high = inside.right in omega (arith, ints)))

pub returns-then-b-2 : goal.returns-then-b-2
returns-then-b-2 c = c.no_reach-then-b-2.ensures ∙ sym (reach_of_none c.args.b (λ o inside. let low = inside.top in let high = inside.bottom in omega (arith, ints)))

pub returns : goal.returns
returns c =
    let b = c.args.b in
    same_reach c.left_of.result c.right_of.result c.up_of.result c.down_of.result (nonnegative (neg_ℤ b.x0)) (nonnegative b.x1) (nonnegative (neg_ℤ b.y0)) (nonnegative b.y1) c.left_of.ensures c.right_of.ensures c.up_of.ensures c.down_of.ensures
    ∙ sym (reach_of_some b (omega (arith, ints)) (omega (arith, ints)))
