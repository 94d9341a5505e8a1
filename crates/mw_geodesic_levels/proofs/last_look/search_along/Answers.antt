use Rattle.std.proofs.Common.{arith, refl, below_more}
use Rattle.mw_geodesic_levels.proofs.last_look.search_along.Goals as goal

pub loop-x-init : goal.loop-x-init
loop-x-init g c = λ k lt. absurd (omega arith)

pub loop-x-preserved : goal.loop-x-preserved
loop-x-preserved g c = below_more _ _ c.loop-x.invariant (c.in_default.ensures.none refl)

pub returns-clause-none : goal.returns-clause-none
returns-clause-none g c = λ none x lt. c.loop-x.invariant x (omega arith)
