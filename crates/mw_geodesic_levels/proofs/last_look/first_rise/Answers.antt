use Rattle.std.proofs.Common.{arith, refl, below_more}
use Rattle.mw_geodesic_levels.proofs.last_look.first_rise.Goals as goal

pub loop-y-init : goal.loop-y-init
loop-y-init g c = λ k lt. absurd (omega arith)

pub loop-y-preserved : goal.loop-y-preserved
loop-y-preserved g c = below_more _ _ c.loop-y.invariant (c.in_default.ensures.none refl)

pub returns-clause-none : goal.returns-clause-none
returns-clause-none g c = λ none. record { still = λ x y v p q r. c.loop-y.invariant y (omega arith) x v p r }
