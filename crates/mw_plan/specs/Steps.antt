-- Plans of one image, and what the steps of flat operators do (own).
use Rattle.std.specs.Prelude.{ℕ, ◌≡◌, Bool, true, false, ◌<◌, ◌≤◌, ◌-◌, List, [], ◌∷◌, length, negsuc, pos, neg_ℤ, ◌≤ℤ◌, slice_index_or}
use Rattle.std.specs.List.{AllByRecursion}
use Rattle.mw_model.specs.declared.limits.TheConstants.{STEP_LIMIT}
use Rattle.mw_model.specs.declared.operations.FlatOp.{FlatOp}
use Rattle.mw_model.specs.declared.operations.FlatOp.TheVariants as flat
use Rattle.mw_model.specs.declared.offsets.Offset.{Offset}
use Rattle.mw_model.specs.declared.offsets.OffsetBox.{OffsetBox}
use Rattle.mw_model.specs.Pictures.{Picture}
use Rattle.mw_model.specs.Flat.{erosion, dilation, reflected, opening, closing, white_top_hat, black_top_hat, gradient, rank, threshold, hit_or_miss}
use Rattle.mw_model.specs.PlanSteps.{PlanStep, Minus}
use Rattle.mw_model.specs.PlanSteps as step
use Rattle.mw_model.specs.Plans.{Plan, Planned, Source, FromInput, FromStep, IsSourceAt, is_sum, no_picture, plane_of, planes}
use Rattle.mw_model.specs.Tasks.{nothing_planned}
use Rattle.mw_plan.specs.declared.inputs.Input.{Input}
use Rattle.mw_plan.specs.Asked.{is_element_input}
use Rattle.mw_plan.specs.PlansOf.{CanBeMade, IsReadBy, planes_read}
use Rattle.mw_plan.specs.Forms.{is_slide, is_row_plan, is_strip_plan}
use Rattle.mw_plan.specs.declared.extremum.ExtremumKind.{ExtremumKind}
use Rattle.mw_plan.specs.declared.extremum.ExtremumKind.TheVariants.{Least, Greatest}

-- ---- the two extrema

-- the other extremum
abbrev pub other : ExtremumKind → ExtremumKind
other Least = Greatest
other Greatest = Least

-- the extremum under the element at each place
abbrev pub sliding : ExtremumKind → List Offset → Picture → Picture
sliding Least = erosion
sliding Greatest = dilation

-- an extremum, and then the other by the reflected element
abbrev pub filtering : ExtremumKind → List Offset → Picture → Picture
filtering Least = opening
filtering Greatest = closing

-- what that takes away, or adds
abbrev pub residue : ExtremumKind → List Offset → Picture → Picture
residue Least = white_top_hat
residue Greatest = black_top_hat

-- the step of an extremum by these offsets
abbrev pub by_offsets : ExtremumKind → List Offset → PlanStep
by_offsets Least e = step.Erode e
by_offsets Greatest e = step.Dilate e

-- the step of an extremum by all offsets of a box
abbrev pub by_box : ExtremumKind → OffsetBox → PlanStep
by_box Least box = step.ErodeBox box
by_box Greatest box = step.DilateBox box

-- ---- boxes

-- the bounds of the box stay within the sides of an element
pub record IsNearBox (box : OffsetBox) : Type 0 where
  pub left : negsuc 253 ≤ℤ box.x0
  pub right : box.x1 ≤ℤ pos 254
  pub top : negsuc 253 ≤ℤ box.y0
  pub bottom : box.y1 ≤ℤ pos 254
  pub wide : box.x0 ≤ℤ box.x1
  pub high : box.y0 ≤ℤ box.y1

-- the box turned round its origin
abbrev pub turned_box : OffsetBox → OffsetBox
turned_box box = record { x0 = neg_ℤ box.x1; x1 = neg_ℤ box.x0; y0 = neg_ℤ box.y1; y1 = neg_ℤ box.y0 }

-- ---- steps and plans of one image

-- the step is no Sum, it can be made of each image, and its plane is this operator of it
pub record ActsAs (s : PlanStep) (operator : Picture → Picture) : Type 0 where
  pub unsummed : is_sum s ≡ false
  pub made : (f : Picture) → CanBeMade s (f ∷ [])
  pub plane : (f : Picture) → plane_of s (f ∷ []) f.width f.height ≡ operator f

-- a step that reads the image
abbrev pub of_image : PlanStep → Planned
of_image s = record { step = s; sources = FromInput 0 ∷ [] }

-- a step that reads a step
abbrev pub of_step : ℕ → PlanStep → Planned
of_step k s = record { step = s; sources = FromStep k ∷ [] }

-- one source less the other
abbrev pub less : Source → Source → Planned
less x y = record { step = Minus; sources = x ∷ y ∷ [] }

-- of what a filter takes away or adds, the greater image
abbrev pub greater : ExtremumKind → Source
greater Least = FromInput 0
greater Greatest = FromStep 1

-- and the lesser one
abbrev pub lesser : ExtremumKind → Source
lesser Least = FromStep 1
lesser Greatest = FromInput 0

-- the plane of the last step
abbrev pub last_plane : Plan → Picture → Picture
last_plane plan f =
    let made = planes plan (f ∷ []) f.width f.height in
    slice_index_or made (length made - 1) no_picture

-- the plan of so many steps, none of them a Sum, reads one image and makes this operator of it
pub record Makes (count : ℕ) (operator : Picture → Picture) (plan : Plan) : Type 0 where
  pub some : 1 ≤ count
  pub few : count ≤ STEP_LIMIT
  pub steps : length plan ≡ count
  pub sources : (k : ℕ) → AllByRecursion (IsSourceAt 1 k) (slice_index_or plan k nothing_planned).sources
  pub unsummed : (k : ℕ) → is_sum (slice_index_or plan k nothing_planned).step ≡ false
  pub read : IsReadBy plan 0
  pub made : (f : Picture) (k : ℕ) → k < length plan → CanBeMade (slice_index_or plan k nothing_planned).step (planes_read plan (f ∷ []) f.width f.height k)
  pub last : (f : Picture) → last_plane plan f ≡ operator f

-- the plan is an extremum by the element, and then the other by the reflected element
pub record IsChain (extremum : ExtremumKind) (e : List Offset) (plan : Plan) : Type 0 where
  pub first : PlanStep
  pub second : PlanStep
  pub is : plan ≡ of_image first ∷ of_step 0 second ∷ []
  pub acts_first : ActsAs first (sliding extremum e)
  pub acts_second : ActsAs second (sliding (other extremum) (reflected e))
  pub slides_first : is_slide first ≡ true
  pub slides_second : is_slide second ≡ true

-- the plan can be made by strips, and whether any rows of it can be made alone is told
pub record HasForm (rows : Bool) (plan : Plan) : Type 0 where
  pub strips : is_strip_plan plan ≡ true
  pub alone : is_row_plan plan ≡ rows

-- an element stands wherever the operation takes one
abbrev pub HasElements : FlatOp → Input → Input → Type 0
HasElements (flat.Threshold f k) b c = Unit {0}
HasElements (flat.HitMiss f hit miss) b c = (is_element_input b ≡ true) × (is_element_input c ≡ true)
HasElements o b c = is_element_input b ≡ true

-- how many steps an operation takes
abbrev pub step_count : FlatOp → ℕ
step_count (flat.Opening f b) = 2
step_count (flat.Closing f b) = 2
step_count (flat.Gradient f b) = 3
step_count (flat.WhiteTopHat f b) = 3
step_count (flat.BlackTopHat f b) = 3
step_count (flat.HitMiss f hit miss) = 3
step_count o = 1

-- the operator of an operation by these elements
abbrev pub operator_of : FlatOp → List Offset → List Offset → Picture → Picture
operator_of (flat.Erode f b) e d = erosion e
operator_of (flat.Dilate f b) e d = dilation e
operator_of (flat.Opening f b) e d = opening e
operator_of (flat.Closing f b) e d = closing e
operator_of (flat.Gradient f b) e d = gradient e
operator_of (flat.WhiteTopHat f b) e d = white_top_hat e
operator_of (flat.BlackTopHat f b) e d = black_top_hat e
operator_of (flat.Rank f b k) e d = rank e k
operator_of (flat.Threshold f k) e d = threshold k
operator_of (flat.HitMiss f hit miss) e d = hit_or_miss e d
