-- What is wrong with geodesic calls: the first case that holds.
use Rattle.std.specs.Prelude.{◌==◌, ◌&&◌, ℕ, not, nat_lt, Bool, true, false, [], ◌∷◌, Option, Some, None}
use Rattle.mw_model.specs.declared.codes.Code.{Code}
use Rattle.mw_model.specs.declared.codes.Code.TheVariants as code
use Rattle.mw_model.specs.Refusals.{first_of, when}
use Rattle.mw_c_geodesic.specs.declared.refusals.Refusal.{Refusal}
use Rattle.mw_c_geodesic.specs.declared.refusals.Refusal.TheVariants as refusal
use Rattle.mw_c_geodesic.specs.Told.{of_code}

-- the first refusal, or else the second
abbrev pub or_else : Option Refusal → Option Refusal → Option Refusal
or_else (Some c) second = Some c
or_else None second = second

-- the refusal, where the case holds
abbrev pub refuse_when : Bool → Refusal → Option Refusal
refuse_when true c = Some c
refuse_when false c = None

-- no reconstruction has the method
abbrev pub method_case : ℕ → Option Code
method_case method = when (not (nat_lt method 2)) code.Param

-- the number is 0
abbrev pub nothing_case : ℕ → Option Code
nothing_case n = when (n == 0) code.Param

-- two images have other sides
abbrev pub frame_case : ℕ → ℕ → ℕ → ℕ → Option Refusal
frame_case width height width' height' = refuse_when (not (width == width' && height == height')) refusal.Frame

-- two images have other maxvals
abbrev pub levels_case : ℕ → ℕ → Option Refusal
levels_case maxval maxval' = refuse_when (not (maxval == maxval')) refusal.Levels

-- the method of a reconstruction, the marker, the mask, their sides and maxvals, the room for what is made, and the element, in this order
abbrev pub rebuild_fault : Option Code → Option Code → Option Code → Option Refusal → Option Refusal → Option Code → Option Code → Option Refusal
rebuild_fault method marker mask frame levels room element =
    or_else (of_code (first_of (method ∷ marker ∷ mask ∷ []))) (or_else frame (or_else levels (of_code (first_of (room ∷ element ∷ [])))))
