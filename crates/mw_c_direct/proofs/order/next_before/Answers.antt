use Rattle.std.proofs.Common.{arith}
use Rattle.mw_c_direct.proofs.Steps.{sources_made}
use Rattle.mw_c_direct.proofs.order.next_before.Goals as goal

pub returns-clause-none : goal.returns-clause-none
returns-clause-none c =
    let none = c.steps-test.false in
    sources_made c.args.plan.now c.args.made.now c.args.k c.requires.steps (λ i. c.steps.invariant.later i (omega (arith, none)))
