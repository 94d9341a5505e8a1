-- Plans that grow step by step, for a command with one image (own).
use Rattle.std.specs.Prelude.{ℕ, ◌≡◌, ◌<◌, ◌*◌, List, [], ◌∷◌, ◌++◌, length, slice_index_or}
use Rattle.std.specs.List.{AllByRecursion}
use Rattle.mw_model.specs.Pictures.{Picture}
use Rattle.mw_model.specs.PlanSteps.{PlanStep}
use Rattle.mw_model.specs.Plans.{Plan, Source, FromStep, IsSourceAt, plane_of, plane_of_source, planes, numbers_from}
use Rattle.mw_model.specs.Tasks.{nothing_planned}
use Rattle.mw_plan.specs.PlansOf.{CanBeMade, IsPlaneSource, IsReadBy, planes_read}

-- the image is of this frame
pub record IsOfFrame (f : Picture) (w h : ℕ) : Type 0 where
  pub width : f.width ≡ w
  pub height : f.height ≡ h
  pub size : length f.samples ≡ h * w

-- what is seen of a source of the plan, of this image
abbrev pub source_seen : Plan → Picture → Source → Picture
source_seen p f s = plane_of_source (f ∷ []) (planes p (f ∷ []) f.width f.height) s

-- the second plan is the first with this step behind it, whose plane the source is
pub record IsPushed (p q : Plan) (step : PlanStep) (sources : List Source) (s : Source) : Type 0 where
  pub is : q ≡ p ++ record { step = step; sources = sources } ∷ []
  pub at : s ≡ FromStep (length p)

-- of images that fit, the source, which is no Sum step, shows this operator of the image
pub record ShowsOperator (Fits : Picture → Type 0) (p : Plan) (s : Source) (operator : Picture → Picture) : Type 0 where
  pub here : IsSourceAt 1 (length p) s
  pub plane : IsPlaneSource p s
  pub is : (f : Picture) → Fits f → source_seen p f s ≡ operator f
  pub framed : (f : Picture) → Fits f → IsOfFrame (operator f) f.width f.height

-- of images that fit, each step reads planes that are there, and can be made of those
pub record PlanIsSound (Fits : Picture → Type 0) (p : Plan) : Type 0 where
  pub sources : (k : ℕ) → AllByRecursion (IsSourceAt 1 k) (slice_index_or p k nothing_planned).sources
  pub planes : (k : ℕ) → AllByRecursion (IsPlaneSource p) (slice_index_or p k nothing_planned).sources
  pub made : (f : Picture) → Fits f → (k : ℕ) → k < length p → CanBeMade (slice_index_or p k nothing_planned).step (planes_read p (f ∷ []) f.width f.height k)

-- of images that fit, the step can be made of what its sources show, and its plane is this operator
pub record Acts (Fits : Picture → Type 0) (step : PlanStep) (shown : Picture → List Picture) (operator : Picture → Picture) : Type 0 where
  pub made : (f : Picture) → Fits f → CanBeMade step (shown f)
  pub plane : (f : Picture) → Fits f → plane_of step (shown f) f.width f.height ≡ operator f
  pub framed : (f : Picture) → Fits f → IsOfFrame (operator f) f.width f.height

-- of images that fit, the numbers of the Sum steps so far
abbrev pub GivesNumbers : (Picture → Type 0) → Plan → (Picture → List ℕ) → Type 0
GivesNumbers Fits p numbers = (f : Picture) → Fits f → numbers_from p (planes p (f ∷ []) f.width f.height) ≡ numbers f

-- the plan goes on to the second: it stays sound, still reads its image, and its sources show what they showed
pub record PlanGoesOn (Fits : Picture → Type 0) (p q : Plan) : Type 0 where
  pub sound : PlanIsSound Fits p → PlanIsSound Fits q
  pub read : IsReadBy p 0 → IsReadBy q 0
  pub shows : (s : Source) (operator : Picture → Picture) → ShowsOperator Fits p s operator → ShowsOperator Fits q s operator
