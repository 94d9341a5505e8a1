-- What is known of the work under a ticket without any state of the machine.
use Rattle.std.specs.Prelude.{ℕ, ◌≡◌, ◌-◌, ◌<◌, ◌≤◌, true, false, List, length, map, Option, None, slice_index_or}
use Rattle.mw_model.specs.declared.shapes.Kind.TheVariants as kind
use Rattle.mw_model.specs.declared.shapes.Shape.{Shape}
use Rattle.mw_model.specs.declared.shapes.Shape.TheVariants as shape
use Rattle.mw_model.specs.declared.limits.TheConstants.{LEVEL_LIMIT}
use Rattle.mw_model.specs.PlanSteps.{PlanStep, Minus, Meet, Join, Blank, Mark, MarkLast}
use Rattle.mw_model.specs.Plans.{Plan, is_sum}
use Rattle.mw_model.specs.declared.operations.Op.{Op}
use Rattle.mw_model.specs.declared.submissions.Submission.{Submission}
use Rattle.mw_model.specs.Values.{Value}
use Rattle.mw_model.specs.Refusals.{Table, submission_at, is_image, inputs_wanted}
use Rattle.mw_model.specs.Machine.{inputs_from}
use Rattle.mw_model.specs.Tasks.{nothing_planned}
use Rattle.mw_core_laws.specs.mw_step_task.WindowTasks.{source_count}
use Rattle.mw_core_laws.specs.mw_core_planes.Levels.{Level, no_level, level_of_source, levels}
use Rattle.mw_core_laws.specs.mw_core_progress.ProgressView.{ProgressView, IsWhole, fresh}
use Rattle.mw_core_laws.specs.mw_plan.PlansOf.{IsPlanOf}
use Rattle.mw_core_laws.specs.mw_plan.Tables.{AreInputsOf, IsInputOf}
use Rattle.mw_core_laws.specs.mw_plan.declared.inputs.Input.{Input}
use Rattle.mw_core_laws.specs.mw_plan.declared.inputs.Input.TheVariants as input
use Rattle.mw_core_tasks.specs.Sides.{IsSideFor}
use Rattle.mw_core_tasks.specs.SourceWindows.{IsInput}

-- the level of an image of this shape
abbrev pub level_of_shape : Shape → Level
level_of_shape (shape.Image k w h m) = record { kind = k; maxval = m }
level_of_shape s = no_level

-- the level in this place
abbrev pub level_at : List Level → ℕ → Level
level_at ls k = slice_index_or ls k no_level

-- both levels are the same
abbrev pub AreSame : Level → Level → Type 0
AreSame a b = (a.kind ≡ b.kind) × (a.maxval ≡ b.maxval)

-- a step can be made of images of these levels
abbrev pub LevelsAllow : PlanStep → List Level → Type 0
LevelsAllow Minus ls = AreSame (level_at ls 0) (level_at ls 1)
LevelsAllow Meet ls = AreSame (level_at ls 0) (level_at ls 1)
LevelsAllow Join ls = AreSame (level_at ls 0) (level_at ls 1)
LevelsAllow (Blank m) ls = (1 ≤ m) × (m ≤ LEVEL_LIMIT)
LevelsAllow (Mark v) ls = (v ≤ (level_at ls 0).maxval) × ((level_at ls 1).kind ≡ kind.Bit) × ((level_at ls 2).kind ≡ kind.Bit)
LevelsAllow (MarkLast v) ls = (v ≤ (level_at ls 0).maxval) × ((level_at ls 1).kind ≡ kind.Bit)
LevelsAllow s ls = Unit {0}

-- the levels that a step of a plan reads, where the plan reads an image of this level
abbrev pub levels_read : Plan → Level → ℕ → List Level
levels_read plan input k = map (level_of_source input (levels plan input)) (slice_index_or plan k nothing_planned).sources

-- each step of the plan can be made of the levels that it reads
pub record IsAllowed (plan : Plan) (input : Level) : Type 0 where
  pub counts : (k : ℕ) → k < length plan → length (slice_index_or plan k nothing_planned).sources ≡ source_count (slice_index_or plan k nothing_planned).step
  pub kinds : (k : ℕ) → k < length plan → LevelsAllow (slice_index_or plan k nothing_planned).step (levels_read plan input k)

-- The work of a command that stands so in the table reads its first input, each of its steps can be made of what it reads, and the last one makes an image where the result is one.
pub record IsPlannedOn (w : Table) (e : Submission) (u : ProgressView) : Type 0 where
  pub input : IsInput w e u
  pub allowed : IsAllowed u.progress.plan u.input
  pub last : is_image e.shape ≡ true → is_sum (slice_index_or u.progress.plan (length u.progress.plan - 1) nothing_planned).step ≡ false

-- the same of the work under a ticket
abbrev pub IsPlannedAt : Table → ℕ → ProgressView → Type 0
IsPlannedAt w t u = IsPlannedOn w (submission_at w.submissions t) u

-- ---- commands that are accepted

-- The input tells what the table and what is kept tell of the ticket, and nothing stands where there is no ticket.
pub record IsLookedUp (w : Table) (kept : List (Option Value)) (t : Option ℕ) (i : Input) : Type 0 where
  pub told : IsInputOf w kept t i
  pub absent : t ≡ None → i ≡ input.Absent

-- what is looked up of the inputs of a command, and the plan that is made of it
pub record IsPlannedRun (w : Table) (kept : List (Option Value)) (o : Op) (a b c : Input) (plan : Plan) : Type 0 where
  pub inputs : AreInputsOf w kept (inputs_from w (inputs_wanted o)) a b c
  pub plan_of : IsPlanOf o a b c plan

-- The work of a command that is accepted: its plan is made of what the table and what is kept tell of its inputs, its tiles have this side where it was asked for, and nothing of it was started.
pub record IsPlannedBy (w : Table) (kept : List (Option Value)) (o : Op) (e : Submission) (side : ℕ) (u : ProgressView) : Type 0 where
  pub a : Input
  pub b : Input
  pub c : Input
  pub run : IsPlannedRun w kept o a b c u.progress.plan
  pub progress : u.progress ≡ fresh u.progress.plan u.input u.tiling
  pub on : IsPlannedOn w e u
  pub tiles : IsSideFor side u.tiling.side
  pub whole : IsWhole u
