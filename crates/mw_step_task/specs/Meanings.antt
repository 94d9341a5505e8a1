-- What each step means.
use Rattle.std.specs.Arc.{arc_value}
use Rattle.mw_model.specs.PlanSteps.{PlanStep}
use Rattle.mw_model.specs.PlanSteps as plan
use Rattle.mw_step_task.specs.declared.step.Step.{Step}
use Rattle.mw_step_task.specs.declared.step.Step.TheVariants as step

-- the step of a plan that this is: of an element only the offsets count
abbrev pub meaning : Step → PlanStep
meaning (step.Erode e) = plan.Erode (arc_value e).offsets
meaning (step.Dilate e) = plan.Dilate (arc_value e).offsets
meaning (step.ErodeBox b) = plan.ErodeBox b
meaning (step.DilateBox b) = plan.DilateBox b
meaning (step.Rank e k) = plan.Rank (arc_value e).offsets k
meaning step.Minus = plan.Minus
meaning (step.AtLeast k) = plan.AtLeast k
meaning step.Invert = plan.Invert
meaning step.Meet = plan.Meet
meaning step.Join = plan.Join
meaning (step.Blank m) = plan.Blank m
meaning (step.Mark v) = plan.Mark v
meaning (step.MarkLast v) = plan.MarkLast v
meaning (step.Equal v) = plan.Equal v
meaning step.Sum = plan.Sum
