-- What the faults of plans are called.
use Rattle.mw_model.specs.declared.codes.Code.{Code}
use Rattle.mw_model.specs.declared.codes.Code.TheVariants as code
use Rattle.mw_plan.specs.declared.faults.PlanFault.{PlanFault}
use Rattle.mw_plan.specs.declared.faults.PlanFault.TheVariants as fault

-- the refusal that a fault stands for
abbrev pub plan_code : PlanFault → Code
plan_code (fault.Kind place) = code.Kind
plan_code fault.Binary = code.Binary
plan_code fault.NoOrigin = code.NoOrigin
plan_code fault.Overlap = code.Overlap
plan_code fault.Param = code.Param
plan_code fault.NoMemory = code.Memory
