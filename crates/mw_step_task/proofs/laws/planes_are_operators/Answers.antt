use Rattle.std.proofs.Common.{◌-◌, cond, nat_le}
use Rattle.mw_model.specs.declared.shapes.Kind.TheVariants as kind
use Rattle.mw_step_task.proofs.Cut.{plane_of_one, plane_of_two}
use Rattle.mw_step_task.proofs.laws.planes_are_operators.Goals as goal

pub returns-clause-minus : goal.returns-clause-minus
returns-clause-minus c = λ f g width height. plane_of_two f g width height

pub returns-clause-threshold : goal.returns-clause-threshold
returns-clause-threshold c = λ k f. plane_of_one kind.Bit 1 (λ n. cond (nat_le k n) 1 0) f

pub returns-clause-complement : goal.returns-clause-complement
returns-clause-complement c = λ f. plane_of_one f.kind f.maxval (λ n. f.maxval - n) f
