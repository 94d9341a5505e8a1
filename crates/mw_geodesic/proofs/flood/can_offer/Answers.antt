use Rattle.std.proofs.Common.{arith, inr}
use Rattle.mw_geodesic.proofs.Raised.{nothing_by_one_more, nothing_at_all}
use Rattle.mw_geodesic.proofs.flood.can_offer.Goals as goal

pub loop-i-init : goal.loop-i-init
loop-i-init c = λ x y p q covers. inr covers

pub loop-i-preserved : goal.loop-i-preserved
loop-i-preserved c =
    nothing_by_one_more c.args.element.now c.loop-i.i _ c.args.mask.now c.args.canvas.now c.args.q.x c.args.q.y (omega arith) c.loop-i.invariant (c.can_offer_by.ensures c.if-can_offer_by.false)

pub returns : goal.returns
returns c = λ none. nothing_at_all c.args.element.now c.loop-i.i c.args.mask.now c.args.canvas.now c.args.q.x c.args.q.y (omega arith) c.loop-i.invariant
