-- What an operation takes and gives (own).
use Rattle.std.specs.Prelude.{◌≡◌, List, [], ◌∷◌, Option, Some, None, option_map}
use Rattle.std.specs.Borrow.{Bor}
use Rattle.std.specs.Arc.{arc_value}
use Rattle.std.specs.declared.sync.Arc.{Arc}
use Rattle.std.proofs.Common.{Global}
use Rattle.mw_model.specs.declared.offsets.Offset.{Offset}
use Rattle.mw_model.specs.Elements.{Figure}
use Rattle.mw_model.specs.Pictures.{Picture, IsImage}
use Rattle.mw_model.specs.Values.{Value, ImageValue, ElementValue, CurveValue}
use Rattle.mw_plan.specs.declared.inputs.Input.{Input}
use Rattle.mw_plan.specs.declared.inputs.Input.TheVariants as input
use Rattle.mw_c_direct.specs.declared.applying.Made.{Made}
use Rattle.mw_c_direct.specs.declared.applying.Made.TheVariants as made

-- what stands in the place of an element, if one is given
abbrev pub input_given : Option (Bor (Arc Figure Global)) → Input
input_given (Some e) = input.Element e
input_given None = input.Absent

-- the element that is given, if one is
abbrev pub figure_given : Option (Bor (Arc Figure Global)) → Option Figure
figure_given b = option_map (λ e. arc_value e.now) b

-- its offsets, and none where none is given
abbrev pub offsets_given : Option Figure → List Offset
offsets_given (Some b) = b.offsets
offsets_given None = []

-- the values of an image and up to two elements
abbrev pub values_given : Picture → Option Figure → Option Figure → List (Option Value)
values_given image b c = Some (ImageValue image) ∷ option_map (λ e. ElementValue e) b ∷ option_map (λ e. ElementValue e) c ∷ []

-- the image or the curve as a value
abbrev pub value_of_made : Made → Value
value_of_made (made.Image f) = ImageValue f
value_of_made (made.Curve volumes) = CurveValue volumes

-- it is an image, and this one
abbrev pub IsImageMade : Picture → Made → Type 0
IsImageMade f (made.Image g) = g ≡ f
IsImageMade f (made.Curve volumes) = ⊥

-- an image is within the limits of one
abbrev pub IsSoundMade : Made → Type 0
IsSoundMade (made.Image f) = IsImage f
IsSoundMade (made.Curve volumes) = Unit {0}
