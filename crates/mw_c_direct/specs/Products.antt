-- What a step made (own).
use Rattle.std.specs.Prelude.{◌≡◌, ℕ, true, false, List, sum, Option, Some, None, slice_set}
use Rattle.mw_model.specs.Pictures.{Picture}
use Rattle.mw_model.specs.PlanSteps.{PlanStep}
use Rattle.mw_model.specs.Plans.{is_sum}
use Rattle.mw_c_direct.specs.declared.making.Product.{Product}
use Rattle.mw_c_direct.specs.declared.making.Product.TheVariants as product

-- it is the plane, or for a Sum step the sum of the plane's samples
abbrev pub IsProduct : PlanStep → Picture → Product → Type 0
IsProduct s plane (product.Plane f) = (is_sum s ≡ false) × (f ≡ plane)
IsProduct s plane (product.Number n) = (is_sum s ≡ true) × (n ≡ sum plane.samples)

-- the planes that are kept, once step k has made this
abbrev pub put : List (Option Picture) → ℕ → Product → List (Option Picture)
put kept k (product.Plane f) = slice_set kept k (Some f)
put kept k (product.Number n) = kept

-- the number that was made, if one was
abbrev pub number_made : Product → Option ℕ
number_made (product.Plane f) = None
number_made (product.Number n) = Some n

-- it is the sum of the plane's samples for a Sum step, and none for another
abbrev pub IsNumberOf : PlanStep → Picture → Option ℕ → Type 0
IsNumberOf s plane (Some n) = (is_sum s ≡ true) × (n ≡ sum plane.samples)
IsNumberOf s plane None = is_sum s ≡ false
