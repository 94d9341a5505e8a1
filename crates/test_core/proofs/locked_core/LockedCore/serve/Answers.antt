use Rattle.std.proofs.Math.Logic.{∥∥₁_map}
use Rattle.test_core.proofs.locked_core.LockedCore.serve.Goals as goal

pub invariant_of-self : goal.invariant_of-self
invariant_of-self c = record {
  stands = ∥∥₁_map c.args.self.now.stands (λ w. let step = c.serve.ensures.happens w.0 w.1 in (step.0, step.2));
}
