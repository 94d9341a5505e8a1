-- The forms that plans of flat operators have.
use Rattle.std.specs.Prelude.{◌==◌, ◌&&◌, ◌||◌, Bool, true, false, List, [], ◌∷◌}
use Rattle.mw_model.specs.declared.operations.FlatOp.{FlatOp}
use Rattle.mw_model.specs.declared.operations.FlatOp.TheVariants as flat
use Rattle.mw_model.specs.PlanSteps.{PlanStep}
use Rattle.mw_model.specs.PlanSteps as plan
use Rattle.mw_model.specs.Plans.{FromInput, FromStep, Plan, Planned, Source}

-- the step is an extremum or a rank
abbrev pub is_slide : PlanStep → Bool
is_slide (plan.Erode e) = true
is_slide (plan.Dilate e) = true
is_slide (plan.ErodeBox b) = true
is_slide (plan.DilateBox b) = true
is_slide (plan.Rank e k) = true
is_slide s = false

-- the step is a threshold
abbrev pub is_threshold : PlanStep → Bool
is_threshold (plan.AtLeast k) = true
is_threshold s = false

-- the step is a difference
abbrev pub is_minus : PlanStep → Bool
is_minus plan.Minus = true
is_minus s = false

-- a step that reads one source
abbrev pub read_by : Source → PlanStep → Planned
read_by x s = record { step = s; sources = x ∷ [] }

-- the source is this one
abbrev pub reads_source : Source → Source → Bool
reads_source (FromInput i) (FromInput j) = i == j
reads_source (FromStep i) (FromStep j) = i == j
reads_source x y = false

-- the step has this source alone
abbrev pub reads_one : Source → List Source → Bool
reads_one x (y ∷ []) = reads_source x y
reads_one x ys = false

-- the step has these two sources
abbrev pub reads_two : Source → Source → List Source → Bool
reads_two x y (a ∷ b ∷ []) = reads_source x a && reads_source y b
reads_two x y zs = false

-- the step is an extremum or a rank of this source
abbrev pub slides : Source → Planned → Bool
slides x p = is_slide p.step && reads_one x p.sources

-- the step is a threshold of this source
abbrev pub thresholds : Source → Planned → Bool
thresholds x p = is_threshold p.step && reads_one x p.sources

-- the step is the difference of these sources
abbrev pub lessens : Source → Source → Planned → Bool
lessens x y p = is_minus p.step && reads_two x y p.sources

-- the difference is that of two steps of the image
abbrev pub is_difference : Planned → Planned → Bool
is_difference b c = slides (FromInput 0) b && lessens (FromStep 0) (FromStep 1) c

-- the difference is that of the image and of what two steps make of it
abbrev pub is_residue_form : Planned → Planned → Bool
is_residue_form b c = slides (FromStep 0) b && (lessens (FromInput 0) (FromStep 1) c || lessens (FromStep 1) (FromInput 0) c)

-- the plan can be made by strips of rows: it is one step, two in turn, or the difference of two steps of the image, or of the image and two in turn
abbrev pub is_strip_plan : Plan → Bool
is_strip_plan (a ∷ []) = slides (FromInput 0) a || thresholds (FromInput 0) a
is_strip_plan (a ∷ b ∷ []) = slides (FromInput 0) a && slides (FromStep 0) b
is_strip_plan (a ∷ b ∷ c ∷ []) = slides (FromInput 0) a && (is_difference b c || is_residue_form b c)
is_strip_plan p = false

-- any rows of the plan can be made alone: it is one step, or the difference of two steps of the image
abbrev pub is_row_plan : Plan → Bool
is_row_plan (a ∷ []) = slides (FromInput 0) a || thresholds (FromInput 0) a
is_row_plan (a ∷ b ∷ c ∷ []) = slides (FromInput 0) a && is_difference b c
is_row_plan p = false

-- any rows of what the operation makes can be made alone
abbrev pub has_rows : FlatOp → Bool
has_rows (flat.Opening f b) = false
has_rows (flat.Closing f b) = false
has_rows (flat.WhiteTopHat f b) = false
has_rows (flat.BlackTopHat f b) = false
has_rows o = true
