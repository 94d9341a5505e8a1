-- What is made at each place of an image (own).
use Rattle.std.specs.Prelude.{[], ◌∷◌}
use Rattle.std.specs.Arc.{arc_value}
use Rattle.mw_model.specs.Pictures.{Picture}
use Rattle.mw_model.specs.Plans.{plane_of}
use Rattle.mw_model.specs.PlanSteps.{PlanStep}
use Rattle.mw_model.specs.PlanSteps as plan
use Rattle.mw_c_lent.specs.declared.rules.Rule.{Rule}
use Rattle.mw_c_lent.specs.declared.rules.Rule.TheVariants as rule

-- the step of a plan that a rule is
abbrev pub step_of : Rule → PlanStep
step_of (rule.Least e) = plan.Erode (arc_value e.now).offsets
step_of (rule.Greatest e) = plan.Dilate (arc_value e.now).offsets
step_of (rule.LeastBox b) = plan.ErodeBox b
step_of (rule.GreatestBox b) = plan.DilateBox b
step_of (rule.Nth e k) = plan.Rank (arc_value e.now).offsets k
step_of (rule.AtLeast k) = plan.AtLeast k

-- what a rule makes of an image
abbrev pub rule_picture : Rule → Picture → Picture
rule_picture r f = plane_of (step_of r) (f ∷ []) f.width f.height
