-- When a plan is one of an operation (own).
use Rattle.std.specs.Prelude.{ℕ, ◌≡◌, ◌-◌, ◌<◌, ◌≤◌, true, false, List, [], ◌∷◌, length, map, take, count_by, Contains, Option, Some, None, slice_index_or}
use Rattle.std.specs.List.{AllByRecursion}
use Rattle.std.specs.Arc.{arc_value}
use Rattle.mw_model.specs.declared.shapes.Kind.TheVariants as kind
use Rattle.mw_model.specs.declared.operations.Op.{Op}
use Rattle.mw_model.specs.declared.limits.TheConstants.{LEVEL_LIMIT, STEP_LIMIT}
use Rattle.mw_model.specs.Pictures.{Picture, IsImage}
use Rattle.mw_model.specs.Values.{Value, ImageValue, ElementValue, CurveValue, shape_of_picture, result_of}
use Rattle.mw_model.specs.Refusals.{inputs_wanted, is_image}
use Rattle.mw_model.specs.PlanSteps.{PlanStep, Minus, Meet, Join, Blank, Mark, MarkLast}
use Rattle.mw_model.specs.Plans as model
use Rattle.mw_model.specs.Plans.{Plan, Source, FromInput, FromStep, IsSourceAt, images_of, is_sum, no_picture, plane_of_source, planes, value_of_planes}
use Rattle.mw_model.specs.Tasks.{nothing_planned}
use Rattle.mw_step_task.specs.WindowTasks.{source_count}
use Rattle.mw_plan.specs.declared.inputs.Input.{Input}
use Rattle.mw_plan.specs.declared.inputs.Input.TheVariants as input
use Rattle.mw_plan.specs.Asked.{is_image_input, shape_made}

-- ---- inputs and their values

-- the value may come to stand in the place of the input
abbrev pub IsValueOf : Input → Option Value → Type 0
IsValueOf (input.Image s) v = (f : Picture) × (v ≡ Some (ImageValue f)) × IsImage f × (shape_of_picture f ≡ s)
IsValueOf (input.Element e) v = v ≡ Some (ElementValue (arc_value e.now))
IsValueOf input.Curve v = (numbers : List ℕ) × (v ≡ Some (CurveValue numbers))
IsValueOf input.Absent v = v ≡ None

-- each value may come to stand in the place of its input
abbrev pub AreValuesOf : List Input → List (Option Value) → Type 0
AreValuesOf [] [] = Unit {0}
AreValuesOf [] (v ∷ vs) = ⊥
AreValuesOf (i ∷ is) [] = ⊥
AreValuesOf (i ∷ is) (v ∷ vs) = IsValueOf i v × AreValuesOf is vs

-- the inputs that the operation takes, in argument order
abbrev pub inputs_taken : Op → Input → Input → Input → List Input
inputs_taken o a b c = take (length (inputs_wanted o)) (a ∷ b ∷ c ∷ [])

-- how many images are among them
abbrev pub images_taken : Op → Input → Input → Input → ℕ
images_taken o a b c = count_by is_image_input (inputs_taken o a b c)

-- ---- what a step can be made of

-- the image in this place
abbrev pub picture_at : List Picture → ℕ → Picture
picture_at sources k = slice_index_or sources k no_picture

-- both images are of one kind and maxval
abbrev pub AreAlike : Picture → Picture → Type 0
AreAlike f g = (f.kind ≡ g.kind) × (f.maxval ≡ g.maxval)

-- images that are put together are of one kind and maxval, a blank image has the maxval of an image, marked places are sets, and a mark is a level of what is marked
abbrev pub KindsAllow : PlanStep → List Picture → Type 0
KindsAllow Minus sources = AreAlike (picture_at sources 0) (picture_at sources 1)
KindsAllow Meet sources = AreAlike (picture_at sources 0) (picture_at sources 1)
KindsAllow Join sources = AreAlike (picture_at sources 0) (picture_at sources 1)
KindsAllow (Blank m) sources = (1 ≤ m) × (m ≤ LEVEL_LIMIT)
KindsAllow (Mark v) sources = (v ≤ (picture_at sources 0).maxval) × ((picture_at sources 1).kind ≡ kind.Bit) × ((picture_at sources 2).kind ≡ kind.Bit)
KindsAllow (MarkLast v) sources = (v ≤ (picture_at sources 0).maxval) × ((picture_at sources 1).kind ≡ kind.Bit)
KindsAllow s sources = Unit {0}

-- the step can be made of these images
pub record CanBeMade (s : PlanStep) (sources : List Picture) : Type 0 where
  pub count : length sources ≡ source_count s
  pub kinds : KindsAllow s sources

-- the planes that a step of a plan reads
abbrev pub planes_read : Plan → List Picture → ℕ → ℕ → ℕ → List Picture
planes_read plan images width height k =
    map (plane_of_source images (planes plan images width height)) (slice_index_or plan k nothing_planned).sources

-- ---- plans

-- the frame of each image has this width and height
abbrev pub HaveFrame : ℕ → ℕ → List Picture → Type 0
HaveFrame width height images = AllByRecursion (λ (f : Picture). (f.width ≡ width) × (f.height ≡ height)) images

-- a step of the plan reads this image
abbrev pub IsReadBy : Plan → ℕ → Type 0
IsReadBy plan i = (k : ℕ) × (k < length plan) × Contains (slice_index_or plan k nothing_planned).sources (FromInput i)

-- the source is no Sum step, whose numbers are no plane
abbrev pub IsPlaneSource : Plan → Source → Type 0
IsPlaneSource plan (FromStep k) = is_sum (slice_index_or plan k nothing_planned).step ≡ false
IsPlaneSource plan s = Unit {0}

-- The plan has from 1 to STEP_LIMIT steps and reads one image. Each source is that image or an earlier step that makes a plane, an image is what the last step makes, and whatever images come to stand in the inputs, each step can be made of what it reads, and the planes of the plan mean the operation.
pub record IsPlanOf (o : Op) (a b c : Input) (plan : Plan) : Type 0 where
  pub some : 1 ≤ length plan
  pub few : length plan ≤ STEP_LIMIT
  pub one : images_taken o a b c ≡ 1
  pub sources : (k : ℕ) → AllByRecursion (IsSourceAt (images_taken o a b c) k) (slice_index_or plan k nothing_planned).sources
  pub planes : (k : ℕ) → AllByRecursion (IsPlaneSource plan) (slice_index_or plan k nothing_planned).sources
  pub last : is_image (shape_made o a) ≡ true → is_sum (slice_index_or plan (length plan - 1) nothing_planned).step ≡ false
  pub read : (i : ℕ) → i < images_taken o a b c → IsReadBy plan i
  pub made : (values : List (Option Value)) (width height k : ℕ) → AreValuesOf (inputs_taken o a b c) values → HaveFrame width height (images_of values)
      → k < length plan → CanBeMade (slice_index_or plan k nothing_planned).step (planes_read plan (images_of values) width height k)
  pub means : (values : List (Option Value)) (width height : ℕ) → AreValuesOf (inputs_taken o a b c) values → HaveFrame width height (images_of values)
      → value_of_planes (shape_made o a) plan (model.planes plan (images_of values) width height) ≡ result_of o values
