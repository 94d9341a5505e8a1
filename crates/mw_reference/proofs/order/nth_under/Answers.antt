use Rattle.std.proofs.Common.{◌≡◌, ◌∙◌, sym, arith, length, min, max}
use Rattle.std.proofs.lemmas.Bool.{iff_false}
use Rattle.mw_model.specs.Flat.{under}
use Rattle.mw_model.proofs.Ranks.{nth_from}
use Rattle.mw_reference.proofs.Ranks.{nth_of-never, not_by_none, not_by_other}
use Rattle.mw_reference.proofs.order.nth_under.Goals.{in-Some+else-is_nth, in_default}
use Rattle.mw_reference.proofs.order.nth_under.Goals as goal

pub loop-i-preserved : goal.loop-i-preserved
loop-i-preserved c =
    let f = c.args.image.now in
    let bs = c.args.element.now in
    let n-is : c.max-n.result ≡ max 1 (min c.args.k (length (under f bs c.args.x c.args.y))) = omega arith in
    elim c.match-sample_under.branch [
      | in-Some+else-is_nth w ↦
          not_by_other f bs c.args.k c.max-n.result c.loop-i.i c.args.x c.args.y w.in-Some.s _ (omega arith) (sym w.in-Some.is ∙ c.sample_under.ensures) n-is
          (iff_false w.is_nth.ensures w.if-is_nth.false) c.loop-i.invariant
      | in_default w ↦ not_by_none f bs c.args.k c.loop-i.i c.args.x c.args.y _ (omega arith) (sym w.in_default.is ∙ c.sample_under.ensures) c.loop-i.invariant
    ]

pub returns-then-is_nth : goal.returns-then-is_nth
returns-then-is_nth c =
    let n-is : c.max-n.result ≡ max 1 (min c.args.k (length (under c.args.image.now c.args.element.now c.args.x c.args.y))) = omega arith in
    nth_from (under c.args.image.now c.args.element.now c.args.x c.args.y) c.args.k c.max-n.result c.in-Some.s n-is (c.is_nth.ensures.0 c.if-is_nth.true)

pub returns : goal.returns
returns c = nth_of-never c.args.image.now c.args.element.now c.args.k c.loop-i.i c.args.x c.args.y (omega arith) c.loop-i.invariant
