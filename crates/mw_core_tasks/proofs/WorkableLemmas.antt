-- A plan of an accepted command can be worked off, whatever stands in its inputs.
use Rattle.std.proofs.Common.{◌≡◌, ℕ, zero, suc, ◌<◌, true, List, [], ◌∷◌, length, map, take, get_or, Option, Some, None, refl, sym, ap, ◌∙◌, subst, arith}
use Rattle.std.specs.Arc.{arc_value}
use Rattle.std.specs.List.{AllByRecursion}
use Rattle.mw_model.proofs.mw_facts.Alls.{all-take}
use Rattle.mw_model.specs.declared.operations.Op.{Op}
use Rattle.mw_model.specs.declared.shapes.Shape.{Shape}
use Rattle.mw_model.specs.declared.shapes.Shape.TheVariants as shape
use Rattle.mw_model.specs.Pictures.{Picture, IsImage, drawn}
use Rattle.mw_model.specs.Plans.{Plan, IsSourceAt, images_of, no_picture}
use Rattle.mw_model.specs.Refusals.{inputs_wanted, is_image}
use Rattle.mw_model.specs.Tasks.{nothing_planned}
use Rattle.mw_model.specs.Values.{Value, ImageValue, ElementValue, CurveValue, shape_of_picture}
use Rattle.mw_model.proofs.ImageLaws.{drawn_picture}
use Rattle.mw_core_laws.specs.mw_plan.PlansOf.{AreValuesOf, CanBeMade, HaveFrame, IsPlanOf, IsValueOf, inputs_taken, planes_read}
use Rattle.mw_core_laws.specs.mw_plan.declared.inputs.Input.{Input}
use Rattle.mw_core_laws.specs.mw_plan.declared.inputs.Input.TheVariants as input
use Rattle.mw_core_laws.specs.mw_core_planes.Levels.{Level, level_of}
use Rattle.mw_core_laws.specs.mw_core_progress.ProgressView.{IsWorkable}
use Rattle.mw_core_laws.proofs.Fresh.{only-image}
use Rattle.mw_core_laws.proofs.Workable.{IsOnImage, levels-fit}
use Rattle.mw_core_tasks.specs.Planning.{IsAllowed, level_of_shape}
use Rattle.mw_core_tasks.proofs.AllowedLemmas.{allowed-made}
use Rattle.mw_core_laws.specs.Limits.{FitsLimits}

-- ---- values that may come to stand in inputs

-- a blank image of the shape
blank : Shape → Picture
blank (shape.Image k w h m) = drawn k w h m (λ x y. 0)
blank (shape.Element w h) = no_picture
blank (shape.Curve n) = no_picture

value_in : Input → Option Value
unfolding blank
value_in (input.Image s) = Some (ImageValue (blank s))
value_in (input.Element e) = Some (ElementValue (arc_value e.now))
value_in input.Curve = Some (CurveValue [])
value_in input.Absent = None

-- an image that stands in the input is within the limits
abbrev pub ImageFits : Input → Type 0
ImageFits (input.Image s) = FitsLimits s × (is_image s ≡ true)
ImageFits i = Unit {0}

blank-image : (s : Shape) → FitsLimits s → is_image s ≡ true → IsImage (blank s) × (shape_of_picture (blank s) ≡ s)
unfolding blank
blank-image (shape.Image k w h m) fits e = (
  record {
    picture = drawn_picture k w h m (λ x y. 0) (λ x y across down. omega arith);
    maxval = fits.2;
    width = fits.0;
    height = fits.1;
    area = fits.3;
  },
  refl,
)
blank-image (shape.Element w h) fits e = absurd cc
blank-image (shape.Curve n) fits e = absurd cc

value-of : (i : Input) → ImageFits i → IsValueOf i (value_in i)
unfolding value_in
value-of (input.Image s) fits = let b = blank-image s fits.0 fits.1 in (blank s, refl, b.0, b.1)
value-of (input.Element e) fits = refl
value-of input.Curve fits = ([], refl)
value-of input.Absent fits = refl

values-of : (is : List Input) → AllByRecursion ImageFits is → AreValuesOf is (map value_in is)
values-of [] fits = tt
values-of (i ∷ is) fits = (value-of i fits.0, values-of is fits.1)

-- ---- plans

first-image : (n : ℕ) (s : Shape) (rest : List Input) (f : Picture) → images_of (map value_in (take n (input.Image s ∷ rest))) ≡ f ∷ [] → f ≡ blank s
unfolding value_in
first-image zero s rest f h = absurd cc
first-image (suc n) s rest f h = cc

blank-level : (s : Shape) → is_image s ≡ true → level_of (blank s) ≡ level_of_shape s
unfolding blank
blank-level (shape.Image k w h m) e = refl
blank-level (shape.Element w h) e = absurd cc
blank-level (shape.Curve n) e = absurd cc

-- the plan of an operation on an image of this shape
pub workable : (o : Op) (a b c : Input) (plan : Plan) (s : Shape) → IsPlanOf o a b c plan → a ≡ input.Image s → AllByRecursion ImageFits (a ∷ b ∷ c ∷ [])
    → IsWorkable plan (level_of_shape s) × IsAllowed plan (level_of_shape s)
workable o a b c plan s is first fits =
    let n = length (inputs_wanted o) in
    let taken = inputs_taken o a b c in
    let vs = map value_in taken in
    let values = values-of taken (all-take ImageFits n (a ∷ b ∷ c ∷ []) fits) in
    let only = only-image taken vs values is.one in
    let f = only.0 in
    let Taken : Input → Type 0 = λ x. images_of (map value_in (take n (x ∷ b ∷ c ∷ []))) ≡ f ∷ [] in
    let Fits : Input → Type 0 = ImageFits in
    let shaped = subst Fits first fits.0 in
    let same : level_of f ≡ level_of_shape s = ap level_of (first-image n s (b ∷ c ∷ []) f (subst Taken first only.1)) ∙ blank-level s shaped.1 in
    let Frame : List Picture → Type 0 = HaveFrame f.width f.height in
    let frame : HaveFrame f.width f.height (images_of vs) = subst Frame (sym only.1) ((refl, refl), tt) in
    let TileResult : List Picture → Type 0 = λ fs. (k : ℕ) → k < length plan → CanBeMade (get_or plan k nothing_planned).step (planes_read plan fs f.width f.height k) in
    let sources : (k : ℕ) → AllByRecursion (IsSourceAt 1 k) (get_or plan k nothing_planned).sources = λ k. subst (λ (x : ℕ). AllByRecursion (IsSourceAt x k) (get_or plan k nothing_planned).sources) is.one (is.sources k) in
    let made = subst TileResult only.1 (λ k within. is.made vs f.width f.height k values frame within) in
    let on : IsOnImage plan f f.width f.height = record { image = only.2; sources = sources; made = made } in
    let Both : Level → Type 0 = λ l. IsWorkable plan l × IsAllowed plan l in
    subst Both same (
      record { some = is.some; few = is.few; sources = sources; planes = is.planes; levels = levels-fit plan f f.width f.height on },
      allowed-made plan f f.width f.height sources made,
    )
