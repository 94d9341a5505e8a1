-- From plans of one image to plans of operations.
use Rattle.std.proofs.Common.{◌≡◌, ℕ, ◌+◌, ◌-◌, ◌*◌, ◌/◌, ◌≤◌, true, false, List, [], ◌∷◌, length, Some, None, refl, ap, sym, subst, arith, ◌∙◌}
use Rattle.std.specs.Prelude.{slice_index_or, nat_le, ◌&&◌}
use Rattle.std.proofs.lemmas.Bool.Decides.{nat_tests}
use Rattle.mw_model.specs.declared.limits.TheConstants.{SIZE_LIMIT, TURN_LIMIT}
use Rattle.mw_model.specs.declared.shapes.Kind.{Kind}
use Rattle.mw_model.specs.declared.shapes.Kind.TheVariants.{Bit, Grey}
use Rattle.mw_model.specs.declared.shapes.Shape.{Shape}
use Rattle.mw_model.specs.declared.shapes.Shape.TheVariants as shape
use Rattle.mw_model.specs.declared.operations.Op.TheVariants as op
use Rattle.mw_model.specs.declared.operations.GranOp.{GranOp}
use Rattle.mw_model.specs.declared.operations.GranOp.TheVariants.{Skeleton, Restore, Spectrum}
use Rattle.mw_model.specs.declared.names.Name.{Name}
use Rattle.mw_model.specs.declared.offsets.Offset.{Offset}
use Rattle.mw_model.specs.declared.offsets.OffsetBox.{OffsetBox}
use Rattle.mw_model.specs.Laws.{HoldsOrigin}
use Rattle.mw_plan.specs.mw_element.Figures.{FillsBox}
use Rattle.std.proofs.Math.Nat.{mul-le-mul_left, mul-le-mul_right}
use Rattle.mw_model.specs.Elements.{holds_origin}
use Rattle.mw_model.specs.Iterates.{skeleton, restoration, spectrum}
use Rattle.mw_model.specs.Machine.{as_bits, as_grey}
use Rattle.mw_model.specs.Pictures.{Picture, IsPicture, IsImage, IsSet, FitsKind}
use Rattle.mw_model.specs.Plans.{Plan, FromStep, no_picture, planes}
use Rattle.mw_model.specs.Refusals.{is_binary, is_image}
use Rattle.mw_model.specs.Values.{ImageValue, CurveValue, shape_of_picture}
use Rattle.mw_plan.specs.declared.faults.PlanFault.TheVariants as fault
use Rattle.mw_plan.specs.declared.inputs.Input.{Input}
use Rattle.mw_plan.specs.Asked.{is_image_input, is_element_input, image_shape, offsets_of_input, fault_in, first_fault, unless}
use Rattle.mw_plan.specs.PlansOf.{IsReadBy, IsPlanOf}
use Rattle.mw_plan.specs.Steps.{last_plane}
use Rattle.mw_plan.proofs.Fitting.{none_first, count_two, image_drawn, bits_drawn, grey_drawn, MeansOf, finds_two, plan_of_image, drawn_value}
use Rattle.mw_plan.proofs.Planes.{length-planes}
use Rattle.mw_gran.specs.Growing.{source_seen}
use Rattle.mw_gran.specs.Sizes.{LevelsFit, MakesGran, most_steps, most_steps_by_box}
use Rattle.mw_gran.specs.Turns.{Draws, Tells}

-- ---- plans that draw an image, or tell numbers

draws_means : (Fits : Picture → Type 0) (p : Plan) (steps : ℕ) (operator : Picture → Picture) (s : Shape) → is_image s ≡ true → 1 ≤ length p → length p ≤ 896 → Draws Fits p steps operator
    → MeansOf Fits s (λ f. ImageValue (operator f)) p
draws_means Fits p steps operator s drawn some few draws = record {
  some = some;
  few = few;
  sources = draws.sound.sources;
  planes = draws.sound.planes;
  last = λ is. draws.shows.plane;
  read = draws.read;
  made = draws.sound.made;
  value = λ f fits. drawn_value s p f (operator f) drawn (last f ∙ draws.shows.is f fits);
}
  where
    last : (f : Picture) → last_plane p f ≡ source_seen p f (FromStep (length p - 1))
    last f = ap (λ (n : ℕ). slice_index_or (planes p (f ∷ []) f.width f.height) (n - 1) no_picture) (length-planes p (f ∷ []) f.width f.height)

tells_means : (p : Plan) (steps levels : ℕ) (numbers : Picture → List ℕ) → length p ≤ 896 → Tells p steps numbers → MeansOf IsPicture (shape.Curve levels) (λ f. CurveValue (numbers f)) p
tells_means p steps levels numbers few tells = record {
  some = some tells.read;
  few = few;
  sources = tells.sound.sources;
  planes = tells.sound.planes;
  last = λ is. absurd (clash is);
  read = tells.read;
  made = tells.sound.made;
  value = λ f fits. ap (λ (ns : List ℕ). Some (CurveValue ns)) (tells.counts f fits);
}
  where
    some : IsReadBy p 0 → 1 ≤ length p
    some (k, lt, has) = omega arith

    clash : false ≡ true → ⊥
    clash e = cc

-- ---- what is asked

set_of : (f : Picture) (s : Shape) → IsImage f → shape_of_picture f ≡ s → is_binary s ≡ true → IsSet f
set_of f s image is binary = go f.kind refl image.maxval
  where
    go : (k : Kind) → f.kind ≡ k → FitsKind f.kind f.maxval → IsSet f
    go Bit e fits = record { picture = image.picture; kind = e; maxval = subst (λ (t : Kind). FitsKind t f.maxval) e fits }
    go Grey e fits =
        let no : is_binary (shape.Image Grey f.width f.height f.maxval) ≡ true = ap is_binary (ap (λ (t : Kind). shape.Image t f.width f.height f.maxval) (sym e) ∙ is) ∙ binary in
        absurd (clash no)
      where
        clash : false ≡ true → ⊥
        clash e = cc

-- no input and no number of the operation is at fault
pub record IsAllowed (o : GranOp) (a b : Input) : Type 0 where
  pub image : is_image_input a ≡ true
  pub element : is_element_input b ≡ true
  pub levels : LevelsFit o

number_ok : (k top : ℕ) → first_fault (unless (nat_le 1 k && nat_le k top) fault.Param ∷ []) ≡ None → k ≤ top
number_ok k top none =
    let e : (nat_le 1 k && nat_le k top) ≡ true = (none_first (nat_le 1 k && nat_le k top) fault.Param [] none).0 in
    grind (arith, nat_tests)

pub IsAllowed-gran : (o : GranOp) (a b c : Input) → fault_in (op.Gran o) a b c ≡ None → IsAllowed o a b
IsAllowed-gran (Skeleton f e levels) a b c none =
    let first = none_first (is_image_input a) (fault.Kind 0) _ none in
    let second = none_first (is_element_input b) (fault.Kind 1) _ first.1 in
    let third = none_first (is_binary (image_shape a)) fault.Binary _ second.1 in
    let fourth = none_first (holds_origin (offsets_of_input b)) fault.NoOrigin _ third.1 in
    record { image = first.0; element = second.0; levels = number_ok levels TURN_LIMIT fourth.1 }
IsAllowed-gran (Restore f e levels) a b c none =
    let first = none_first (is_image_input a) (fault.Kind 0) _ none in
    let second = none_first (is_element_input b) (fault.Kind 1) _ first.1 in
    record { image = first.0; element = second.0; levels = number_ok levels TURN_LIMIT second.1 }
IsAllowed-gran (Spectrum f e levels) a b c none =
    let first = none_first (is_image_input a) (fault.Kind 0) _ none in
    let second = none_first (is_element_input b) (fault.Kind 1) _ first.1 in
    record { image = first.0; element = second.0; levels = number_ok levels SIZE_LIMIT second.1 }

is_set : (f e : Name) (levels : ℕ) (a b c : Input) → fault_in (op.Gran (Skeleton f e levels)) a b c ≡ None → is_binary (image_shape a) ≡ true
is_set f e levels a b c none =
    let first = none_first (is_image_input a) (fault.Kind 0) _ none in
    let second = none_first (is_element_input b) (fault.Kind 1) _ first.1 in
    (none_first (is_binary (image_shape a)) fault.Binary _ second.1).0

-- ---- how many steps

pub few_steps : (o : GranOp) (b : List Offset) (p : Plan) → MakesGran o b p → length p ≤ most_steps o
few_steps (Skeleton f e levels) b p makes = let count = makes.count in omega arith
few_steps (Restore f e levels) b p makes = let count = makes.count in omega arith
few_steps (Spectrum f e levels) b p makes = makes.few

pub few_steps_by_box : (o : GranOp) (b : List Offset) (p : Plan) → MakesGran o b p → (box : OffsetBox) → FillsBox box b → HoldsOrigin b → length p ≤ most_steps_by_box o
few_steps_by_box (Skeleton f e levels) b p makes box fills holds = let count = makes.count in omega arith
few_steps_by_box (Restore f e levels) b p makes box fills holds = let count = makes.count in omega arith
few_steps_by_box (Spectrum f e levels) b p makes box fills holds = let count = makes.boxed box fills holds in omega arith

pub short_plan : (o : GranOp) (b : List Offset) (p : Plan) → LevelsFit o → MakesGran o b p → length p ≤ 896
short_plan (Skeleton f e levels) b p fits makes = let count = makes.count in omega arith
short_plan (Restore f e levels) b p fits makes = let count = makes.count in omega arith
short_plan (Spectrum f e levels) b p fits makes = go levels (levels * (levels + 1)) fits (mul-le-mul_below levels 32 fits) makes.few
  where
    mul-le-mul_below : (n k : ℕ) → n ≤ k → n * (n + 1) ≤ k * (k + 1)
    mul-le-mul_below n k le = let right = mul-le-mul_right (n + 1) le in let left : k * (n + 1) ≤ k * (k + 1) = mul-le-mul_left k (omega arith) in omega arith

    go : (n m : ℕ) → n ≤ 32 → m ≤ 1056 → length p ≤ n + m / 2 + n + 1 → length p ≤ 896
    go n m fits le few = omega arith

-- ---- the plans of the three operations

pub gran_plan : (o : GranOp) (a b c : Input) (p : Plan) → fault_in (op.Gran o) a b c ≡ None → MakesGran o (offsets_of_input b) p → IsPlanOf (op.Gran o) a b c p
gran_plan (Skeleton f e levels) a b c p none makes =
    let ok = IsAllowed-gran (Skeleton f e levels) a b c none in
    let d = offsets_of_input b in
    plan_of_image (op.Gran (Skeleton f e levels)) a b c IsSet (λ g. ImageValue (skeleton d levels g)) p (count_two a b ok.image ok.element)
    (finds_two (op.Gran (Skeleton f e levels)) IsSet (λ e g. ImageValue (skeleton e levels g)) a b ok.image ok.element (λ g suits. set_of g (image_shape a) suits.image suits.shape (is_set f e levels a b c none)) (λ g h. refl))
    (draws_means IsSet p (3 * levels + 2) (skeleton d levels) (as_grey (levels + 1) (image_shape a)) (grey_drawn (levels + 1) (image_shape a) ∙ image_drawn a ok.image)
    (let count = makes.count in omega arith) (short_plan (Skeleton f e levels) d p ok.levels makes) makes)
gran_plan (Restore f e levels) a b c p none makes =
    let ok = IsAllowed-gran (Restore f e levels) a b c none in
    let d = offsets_of_input b in
    plan_of_image (op.Gran (Restore f e levels)) a b c IsPicture (λ g. ImageValue (restoration d levels g)) p (count_two a b ok.image ok.element)
    (finds_two (op.Gran (Restore f e levels)) IsPicture (λ e g. ImageValue (restoration e levels g)) a b ok.image ok.element (λ g suits. suits.image.picture) (λ g h. refl))
    (draws_means IsPicture p (3 * levels + 1) (restoration d levels) (as_bits (image_shape a)) (bits_drawn (image_shape a) ∙ image_drawn a ok.image)
    (let count = makes.count in omega arith) (short_plan (Restore f e levels) d p ok.levels makes) makes)
gran_plan (Spectrum f e levels) a b c p none makes =
    let ok = IsAllowed-gran (Spectrum f e levels) a b c none in
    let d = offsets_of_input b in
    plan_of_image (op.Gran (Spectrum f e levels)) a b c IsPicture (λ g. CurveValue (spectrum d levels g)) p (count_two a b ok.image ok.element)
    (finds_two (op.Gran (Spectrum f e levels)) IsPicture (λ e g. CurveValue (spectrum e levels g)) a b ok.image ok.element (λ g suits. suits.image.picture) (λ g h. refl))
    (tells_means p (length p) (levels + 1) (spectrum d levels) (short_plan (Spectrum f e levels) d p ok.levels makes) makes.tells)
