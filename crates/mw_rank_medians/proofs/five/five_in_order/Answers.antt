use Rattle.std.proofs.Common.{◌+◌, arith, refl, subst, sym}
use Rattle.mw_rank_medians.specs.Numbered.{below, lanes_of_two, lanes_of_three, AreFive}
use Rattle.mw_rank_medians.proofs.Merges.{two_made, five_made}
use Rattle.mw_rank_medians.proofs.five.five_in_order.Goals as goal

pub returns : goal.returns
returns g c = λ i count is.
    let lane = g.P.Vectored.lane in
    let a = c.args in
    subst (AreFive count) (sym (c.with_three.ensures i))
    (five_made (lanes_of_two lane c.exchanged-two.result i) (lanes_of_three lane c.three_in_order-three.result i) (λ t. below (lane a.a i) t + below (lane a.b i) t) (λ t. below (lane a.c i) t + below (lane a.d i) t + below (lane a.e i) t) count
    (two_made (lanes_of_two lane c.exchanged-two.result i) (lane a.a i) (lane a.b i) (c.exchanged-two.ensures.low i) (c.exchanged-two.ensures.high i))
    (c.three_in_order-three.ensures i (λ t. below (lane a.c i) t + below (lane a.d i) t + below (lane a.e i) t) (λ t. refl)) (λ t. omega (arith, is t)))
