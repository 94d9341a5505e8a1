use Rattle.std.proofs.Common.{arith, below_more}
use Rattle.std.proofs.lemmas.Bool.{or_parts}
use Rattle.mw_geodesic_levels.proofs.last_look.may_rise_straight.Goals as goal

pub loop-x-init : goal.loop-x-init
loop-x-init g c = λ none k lt. absurd (omega arith)

pub loop-x-preserved : goal.loop-x-preserved
loop-x-preserved g c = λ none.
    let both = or_parts c.loop-x.any c.may_rise-any.result none in
    below_more _ _ (c.loop-x.invariant both.0) (c.may_rise-any.ensures both.1)

pub returns : goal.returns
returns g c = λ none k lt. c.loop-x.invariant none k (omega arith)
