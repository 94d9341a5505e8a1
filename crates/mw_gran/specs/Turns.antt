-- What stands after some turns of a plan (own).
use Rattle.std.specs.Prelude.{ℕ, zero, suc, ◌≡◌, ◌+◌, ◌-◌, ◌*◌, ◌/◌, ◌<◌, ◌≤◌, ◌⊎◌, List, [], Option, Some, None, length}
use Rattle.mw_model.specs.declared.shapes.Kind.TheVariants.{Grey}
use Rattle.mw_model.specs.declared.offsets.Offset.{Offset}
use Rattle.mw_model.specs.declared.offsets.OffsetBox.{OffsetBox}
use Rattle.mw_model.specs.Laws.{HoldsOrigin}
use Rattle.mw_plan.specs.mw_element.Figures.{FillsBox}
use Rattle.mw_model.specs.Pictures.{Picture, drawn, IsPicture, IsSet}
use Rattle.mw_model.specs.Flat.{erosion, dilation, reflected}
use Rattle.mw_model.specs.Iterates.{times, residue_mark, level_set, union, spectrum}
use Rattle.mw_model.specs.Plans.{Plan, Source, FromInput, FromStep}
use Rattle.mw_plan.specs.declared.plans.Source.{Source as Read}
use Rattle.mw_plan.specs.PlansOf.{IsReadBy}
use Rattle.mw_plan.specs.Seen.{source}
use Rattle.mw_model.specs.PlanSteps.{PlanStep}
use Rattle.mw_plan.specs.Steps.{ActsAs}
use Rattle.mw_gran.specs.Growing.{PlanIsSound, ShowsOperator, GivesNumbers}

-- the steps are the erosion by the element, and the dilation by the element turned round
pub record Slides (b : List Offset) (erode dilate : PlanStep) : Type 0 where
  pub erodes : ActsAs erode (erosion b)
  pub dilates : ActsAs dilate (dilation (reflected b))

-- where is read what n erosions leave of the image, in a plan that begins with them
abbrev pub after_erosions : ℕ → Source
after_erosions zero = FromInput 0
after_erosions (suc n) = FromStep n

-- a plan of n erosions, each of what the one before it leaves; they read the image, if there are any
pub record Erodes (b : List Offset) (n : ℕ) (p : Plan) : Type 0 where
  pub count : length p ≡ n
  pub sound : PlanIsSound IsPicture p
  pub read : (after_erosions n ≡ FromInput 0) ⊎ IsReadBy p 0
  pub shows : (k : ℕ) → k ≤ n → ShowsOperator IsPicture p (after_erosions k) (times k (erosion b))
  pub counts : GivesNumbers IsPicture p (λ f. [])

-- a plan of so many steps whose last plane is this operator of each image that fits
pub record Draws (Fits : Picture → Type 0) (p : Plan) (steps : ℕ) (operator : Picture → Picture) : Type 0 where
  pub count : length p ≡ steps
  pub sound : PlanIsSound Fits p
  pub read : IsReadBy p 0
  pub shows : ShowsOperator Fits p (FromStep (length p - 1)) operator

-- the marks of the residues of the first n erosions
abbrev pub marked : List Offset → ℕ → ℕ → Picture → Picture
marked b depth n f = drawn Grey f.width f.height (depth + 1) (residue_mark b f n)

-- the steps that are wanted before a first mark: the empty marks, where there are none yet
abbrev pub steps_to_marks : Option Read → ℕ
steps_to_marks (Some m) = 0
steps_to_marks None = 1

-- the marks of n turns; before the first there are none
abbrev pub AreMarks : List Offset → ℕ → ℕ → Plan → Option Read → Type 0
AreMarks b depth n p (Some m) = ShowsOperator IsSet p (source m) (marked b depth n)
AreMarks b depth n p None = n ≡ 0

-- n turns of a skeleton of this depth, behind its erosions: those, and the marks so far
pub record MarksResidues (b : List Offset) (depth n : ℕ) (p : Plan) (marks : Option Read) : Type 0 where
  pub sound : PlanIsSound IsSet p
  pub read : (after_erosions depth ≡ FromInput 0) ⊎ IsReadBy p 0
  pub shows_eroded : (k : ℕ) → k ≤ depth → ShowsOperator IsSet p (after_erosions k) (times k (erosion b))
  pub are_marks : AreMarks b depth n p marks

-- what m turns restore of the marks above n
unfoldable pub restored : List Offset → ℕ → ℕ → Picture → Picture
restored b n zero g = level_set (n + 1) g
restored b n (suc m) g = union (restored b n m g) (times (suc m) (dilation (reflected b)) (level_set (n + m + 2) g))

-- a plan of the sets of the first n levels, rising
pub record HasLevels (n : ℕ) (p : Plan) : Type 0 where
  pub count : length p ≡ n
  pub sound : PlanIsSound IsPicture p
  pub read : 0 < n → IsReadBy p 0
  pub shows : (k : ℕ) → k < n → ShowsOperator IsPicture p (FromStep k) (level_set (k + 1))

-- m turns of a restoration of this depth, behind the sets of its levels, and n to come
pub record Restores (b : List Offset) (depth n m : ℕ) (p : Plan) (s : Source) : Type 0 where
  pub count : length p ≡ depth + 1 + 2 * m
  pub sound : PlanIsSound IsPicture p
  pub read : IsReadBy p 0
  pub last : s ≡ FromStep (length p - 1)
  pub levels : (k : ℕ) → k ≤ depth → ShowsOperator IsPicture p (FromStep k) (level_set (k + 1))
  pub shows : ShowsOperator IsPicture p s (restored b n m)

-- a plan of so many steps with these numbers
pub record Tells (p : Plan) (steps : ℕ) (numbers : Picture → List ℕ) : Type 0 where
  pub count : length p ≡ steps
  pub sound : PlanIsSound IsPicture p
  pub read : IsReadBy p 0
  pub counts : GivesNumbers IsPicture p numbers

-- what the sources of the first plan show the second shows too
abbrev pub StillShown : Plan → Plan → Type 0
StillShown p q = (s : Source) (operator : Picture → Picture) → ShowsOperator IsPicture p s operator → ShowsOperator IsPicture q s operator

-- the steps of n turns of a spectrum, behind its erosions
abbrev pub volume_steps : ℕ → ℕ
volume_steps zero = 1
volume_steps (suc n) = volume_steps n + n + 2

-- n turns of a spectrum of this depth: its erosions, and the volumes so far
pub record TellsVolumes (b : List Offset) (depth n : ℕ) (p : Plan) : Type 0 where
  pub tells : Tells p (depth + volume_steps n) (spectrum b n)
  pub shows : (k : ℕ) → k ≤ depth → ShowsOperator IsPicture p (after_erosions k) (times k (erosion b))

-- a plan with the volumes as its numbers; by a full rectangle that holds its origin it has three steps for each volume but the first
pub record TellsSpectrum (b : List Offset) (levels : ℕ) (p : Plan) : Type 0 where
  pub tells : Tells p (length p) (spectrum b levels)
  pub few : length p ≤ levels + levels * (levels + 1) / 2 + levels + 1
  pub boxed : (box : OffsetBox) → FillsBox box b → HoldsOrigin b → length p ≡ 3 * levels + 1
