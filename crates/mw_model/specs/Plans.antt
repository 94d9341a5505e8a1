-- Plans: one plane for each step, in order, and what a plan means (own).
use Rattle.std.specs.Prelude.{ℕ, ◌<◌, ◌-◌, Bool, true, false, List, [], ◌∷◌, ◌++◌, length, sum, map, filter_map, Option, Some, None, slice_index_or}
use Rattle.mw_model.specs.declared.shapes.Kind.TheVariants as kind
use Rattle.mw_model.specs.declared.shapes.Shape.{Shape}
use Rattle.mw_model.specs.declared.shapes.Shape.TheVariants as shape
use Rattle.mw_model.specs.Rasters.{Sight}
use Rattle.mw_model.specs.Pictures.{Picture, sample_at, drawn}
use Rattle.mw_model.specs.PlanSteps.{PlanStep, Sum, step_at, kind_of_step, maxval_of_step}
use Rattle.mw_model.specs.Values.{Value, ImageValue, CurveValue, image_of}

-- where a step reads: an input of the command, or an earlier step
pub data Source : Type 0 where
  FromInput : ℕ → Source
  FromStep : ℕ → Source

-- a step with its sources
pub record Planned : Type 0 where
  pub step : PlanStep
  pub sources : List Source

-- the steps of a plan, in order
abbrev pub Plan : Type 0
Plan = List Planned

-- what stands behind the last image of a list: one without places
abbrev pub no_picture : Picture
no_picture = record { kind = kind.Bit; width = 0; height = 0; maxval = 0; samples = [] }

-- the plane of a source, of the inputs and of the planes made so far
abbrev pub plane_of_source : List Picture → List Picture → Source → Picture
plane_of_source inputs made (FromInput k) = slice_index_or inputs k no_picture
plane_of_source inputs made (FromStep k) = slice_index_or made k no_picture

-- what is seen of a source in this place of the argument list
abbrev pub sight_of : List Picture → ℕ → Sight ℕ
sight_of sources k = sample_at (slice_index_or sources k no_picture)

-- the plane of a step on a frame of this width and height, of the whole planes of its sources
abbrev pub plane_of : PlanStep → List Picture → ℕ → ℕ → Picture
plane_of s sources width height =
    let first = slice_index_or sources 0 no_picture in
    drawn (kind_of_step s first.kind) width height (maxval_of_step s first.maxval)
    (λ x y. step_at s first.maxval (sight_of sources 0) (sight_of sources 1) (sight_of sources 2) x y)

-- the planes that are made by a plan behind those made so far
abbrev pub planes_from : Plan → List Picture → List Picture → ℕ → ℕ → List Picture
planes_from [] inputs made width height = made
planes_from (s ∷ ss) inputs made width height =
    planes_from ss inputs (made ++ plane_of s.step (map (plane_of_source inputs made) s.sources) width height ∷ []) width height

-- the planes of the steps of a plan on these images
abbrev pub planes : Plan → List Picture → ℕ → ℕ → List Picture
planes plan inputs width height = planes_from plan inputs [] width height

-- a source of step k is one of so many inputs, or a step before k
abbrev pub IsSourceAt : ℕ → ℕ → Source → Type 0
IsSourceAt inputs k (FromInput i) = i < inputs
IsSourceAt inputs k (FromStep i) = i < k

-- the step makes a number, the sum of its samples
abbrev pub is_sum : PlanStep → Bool
is_sum Sum = true
is_sum other = false

-- the number before the others, where it is one
abbrev pub with_number : Bool → ℕ → List ℕ → List ℕ
with_number true n ns = n ∷ ns
with_number false n ns = ns

-- the numbers of the Sum steps, in order
abbrev pub numbers_from : Plan → List Picture → List ℕ
numbers_from [] made = []
numbers_from (s ∷ ss) [] = []
numbers_from (s ∷ ss) (f ∷ made) = with_number (is_sum s.step) (sum f.samples) (numbers_from ss made)

-- the images among the inputs, in argument order
abbrev pub images_of : List (Option Value) → List Picture
images_of inputs = filter_map image_of inputs

-- what a plan means for a result of this shape: the plane of the last step, or for a curve the numbers of the Sum steps
abbrev pub value_of_planes : Shape → Plan → List Picture → Option Value
value_of_planes (shape.Image k w h m) plan made = Some (ImageValue (slice_index_or made (length made - 1) no_picture))
value_of_planes (shape.Element w h) plan made = None
value_of_planes (shape.Curve n) plan made = Some (CurveValue (numbers_from plan made))
