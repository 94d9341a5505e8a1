-- How contracts see the parts of a plan.
use Rattle.std.specs.Prelude.{List, [], ◌∷◌}
use Rattle.mw_model.specs.Plans as model
use Rattle.mw_step_task.specs.Meanings.{meaning}
use Rattle.mw_plan.specs.declared.plans.Source.{Source}
use Rattle.mw_plan.specs.declared.plans.Source.TheVariants.{Input, Step}
use Rattle.mw_plan.specs.declared.plans.Sources.{Sources}
use Rattle.mw_plan.specs.declared.plans.Sources.TheVariants.{Nothing, One, Two, Three}
use Rattle.mw_plan.specs.declared.plans.PlannedStep.{PlannedStep}

-- where a step reads
abbrev pub source : Source → model.Source
source (Input k) = model.FromInput k
source (Step k) = model.FromStep k

-- the sources of a step, in order
abbrev pub sources : Sources → List model.Source
sources Nothing = []
sources (One a) = source a ∷ []
sources (Two a b) = source a ∷ source b ∷ []
sources (Three a b c) = source a ∷ source b ∷ source c ∷ []

-- the step and its sources
abbrev pub planned : PlannedStep → model.Planned
planned p = record { step = meaning p.step; sources = sources p.sources }
