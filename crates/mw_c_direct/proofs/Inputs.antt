-- What is known of an operation on an image and up to two elements.
use Rattle.std.proofs.Common.{◌≡◌, ℕ, zero, suc, ◌-◌, true, false, List, [], ◌∷◌, length, Option, Some, None, Ok, Err, refl, ap, sym, subst, ◌∙◌, Global}
use Rattle.std.specs.Prelude.{slice_index_or, take, option_map}
use Rattle.std.specs.List.{AllByRecursion}
use Rattle.std.specs.Borrow.{Bor}
use Rattle.std.specs.declared.sync.Arc.{Arc}
use Rattle.mw_model.specs.declared.operations.Op.{Op}
use Rattle.mw_model.specs.declared.operations.Op.TheVariants as op
use Rattle.mw_model.specs.declared.operations.FlatOp.{FlatOp}
use Rattle.mw_model.specs.declared.operations.FlatOp.TheVariants as flat
use Rattle.mw_model.specs.declared.operations.GranOp.TheVariants as gran
use Rattle.mw_model.specs.declared.shapes.Shape.{Shape}
use Rattle.mw_model.specs.declared.shapes.Shape.TheVariants as shape
use Rattle.mw_model.specs.Elements.{Figure}
use Rattle.mw_model.specs.Flat.{erosion, dilation, opening, closing, gradient, white_top_hat, black_top_hat, rank, threshold, hit_or_miss}
use Rattle.mw_model.specs.Pictures.{Picture, IsImage}
use Rattle.mw_model.specs.Plans.{Plan, IsSourceAt, images_of, no_picture, numbers_from, planes, value_of_planes}
use Rattle.mw_model.specs.Refusals.{inputs_wanted, is_image}
use Rattle.mw_model.specs.Tasks.{nothing_planned}
use Rattle.mw_model.specs.Values.{Value, ImageValue, ElementValue, CurveValue, result_of, shape_of_picture}
use Rattle.mw_plan.specs.declared.faults.PlanFault.{PlanFault}
use Rattle.mw_plan.specs.declared.inputs.Input.{Input}
use Rattle.mw_plan.specs.declared.inputs.Input.TheVariants as input
use Rattle.mw_plan.specs.Asked.{IsRefusedBy, fault_in, shape_made}
use Rattle.mw_plan.specs.PlansOf.{AreValuesOf, CanBeMade, HaveFrame, IsPlanOf, IsValueOf, inputs_taken, planes_read}
use Rattle.mw_plan.specs.Steps.{operator_of}
use Rattle.mw_plan.proofs.Planes.{length-planes}
use Rattle.mw_c_direct.specs.declared.applying.Made.{Made}
use Rattle.mw_c_direct.specs.Runs.{IsRunnable, planes_on}
use Rattle.mw_c_direct.specs.Values.{figure_given, input_given, offsets_given, values_given}

-- ---- the values that an operation takes

-- the values of its inputs, in argument order
abbrev values_taken : Op → Picture → Option Figure → Option Figure → List (Option Value)
values_taken o image b c = take (length (inputs_wanted o)) (values_given image b c)

-- the value of an element, where one is given
abbrev element_value : Option Figure → Option Value
element_value b = option_map (λ e. ElementValue e) b

value_given : (b : Option (Bor (Arc Figure Global))) → IsValueOf (input_given b) (element_value (figure_given b))
value_given None = refl
value_given (Some e) = refl

are_taken : (n : ℕ) (is : List Input) (vs : List (Option Value)) → AreValuesOf is vs → AreValuesOf (take n is) (take n vs)
are_taken zero is vs all = tt
are_taken (suc n) [] [] all = tt
are_taken (suc n) [] (v ∷ vs) all = absurd all
are_taken (suc n) (i ∷ is) [] all = absurd all
are_taken (suc n) (i ∷ is) (v ∷ vs) all = (all.0, are_taken n is vs all.1)

-- elements are no images
one_image : (image : Picture) (b c : Option Figure) → images_of (values_given image b c) ≡ image ∷ []
one_image image None None = refl
one_image image None (Some c) = refl
one_image image (Some b) None = refl
one_image image (Some b) (Some c) = refl

two_taken : (image : Picture) (b c : Option Figure) → images_of (take 2 (values_given image b c)) ≡ image ∷ []
two_taken image None c = refl
two_taken image (Some b) c = refl

images_are : (o : Op) (image : Picture) (b c : Option Figure) → images_of (values_taken o image b c) ≡ image ∷ []
images_are (op.Flat (flat.Erode f e)) image b c = two_taken image b c
images_are (op.Flat (flat.Dilate f e)) image b c = two_taken image b c
images_are (op.Flat (flat.Opening f e)) image b c = two_taken image b c
images_are (op.Flat (flat.Closing f e)) image b c = two_taken image b c
images_are (op.Flat (flat.Gradient f e)) image b c = two_taken image b c
images_are (op.Flat (flat.WhiteTopHat f e)) image b c = two_taken image b c
images_are (op.Flat (flat.BlackTopHat f e)) image b c = two_taken image b c
images_are (op.Flat (flat.Rank f e k)) image b c = two_taken image b c
images_are (op.Flat (flat.Threshold f k)) image b c = refl
images_are (op.Flat (flat.HitMiss f hit miss)) image b c = one_image image b c
images_are (op.Gran (gran.Skeleton f e levels)) image b c = two_taken image b c
images_are (op.Gran (gran.Restore f e levels)) image b c = two_taken image b c
images_are (op.Gran (gran.Spectrum f e levels)) image b c = two_taken image b c

-- the result looks at nothing else
same_result : (o : Op) (image : Picture) (b c : Option Figure) → result_of o (values_taken o image b c) ≡ result_of o (values_given image b c)
same_result (op.Flat (flat.Erode f e)) image b c = refl
same_result (op.Flat (flat.Dilate f e)) image b c = refl
same_result (op.Flat (flat.Opening f e)) image b c = refl
same_result (op.Flat (flat.Closing f e)) image b c = refl
same_result (op.Flat (flat.Gradient f e)) image b c = refl
same_result (op.Flat (flat.WhiteTopHat f e)) image b c = refl
same_result (op.Flat (flat.BlackTopHat f e)) image b c = refl
same_result (op.Flat (flat.Rank f e k)) image b c = refl
same_result (op.Flat (flat.Threshold f k)) image b c = refl
same_result (op.Flat (flat.HitMiss f hit miss)) image b c = refl
same_result (op.Gran (gran.Skeleton f e levels)) image b c = refl
same_result (op.Gran (gran.Restore f e levels)) image b c = refl
same_result (op.Gran (gran.Spectrum f e levels)) image b c = refl

-- ---- what its plan means

-- The plan is one of the operation on these.
pub record IsGiven (o : Op) (image : Picture) (b c : Option Figure) (first second third : Input) (plan : Plan) : Type 0 where
  pub sound : IsImage image
  pub first_is : first ≡ input.Image (shape_of_picture image)
  pub second_is : IsValueOf second (element_value b)
  pub third_is : IsValueOf third (element_value c)
  pub plan_of : IsPlanOf o first second third plan

values_fit : (o : Op) (image : Picture) (b c : Option Figure) (first second third : Input) (plan : Plan) → IsGiven o image b c first second third plan → AreValuesOf (inputs_taken o first second third) (values_taken o image b c)
values_fit o image b c first second third plan given =
    are_taken (length (inputs_wanted o)) (first ∷ second ∷ third ∷ []) (values_given image b c)
    (subst (λ (i : Input). IsValueOf i (Some (ImageValue image))) (sym given.first_is) (image, refl, given.sound, refl), (given.second_is, (given.third_is, tt)))

framed : (o : Op) (image : Picture) (b c : Option Figure) → HaveFrame image.width image.height (images_of (values_taken o image b c))
framed o image b c = subst (HaveFrame image.width image.height) (sym (images_are o image b c)) ((refl, refl), tt)

pub runnable : (o : Op) (image : Picture) (b c : Option Figure) (first second third : Input) (plan : Plan) → IsGiven o image b c first second third plan → IsRunnable plan image
runnable o image b c first second third plan given =
    let is = given.plan_of in
    let wide = given.sound.width in
    let high = given.sound.height in
    record {
      some = is.some;
      sources = λ k. subst (λ (n : ℕ). AllByRecursion (IsSourceAt n k) (slice_index_or plan k nothing_planned).sources) is.one (is.sources k);
      planes = is.planes;
      made = λ k lt. subst (λ (fs : List Picture). CanBeMade (slice_index_or plan k nothing_planned).step (planes_read plan fs image.width image.height k)) (images_are o image b c)
          (is.made (values_taken o image b c) image.width image.height k (values_fit o image b c first second third plan given) (framed o image b c) lt);
      wide = wide.0;
      narrow = wide.1;
      high = high.0;
      low = high.1;
    }

-- its planes on the image are the result
plan_means : (o : Op) (image : Picture) (b c : Option Figure) (first second third : Input) (plan : Plan) → IsGiven o image b c first second third plan → result_of o (values_given image b c) ≡ value_of_planes (shape_made o first) plan (planes_on plan image)
plan_means o image b c first second third plan given =
    let means = given.plan_of.means (values_taken o image b c) image.width image.height (values_fit o image b c first second third plan given) (framed o image b c) in
    sym (same_result o image b c) ∙ sym means
    ∙ ap (λ (fs : List Picture). value_of_planes (shape_made o first) plan (planes plan fs image.width image.height)) (images_are o image b c)

drawn : (s : Shape) (plan : Plan) (fs : List Picture) → is_image s ≡ true → value_of_planes s plan fs ≡ Some (ImageValue (slice_index_or fs (length fs - 1) no_picture))
drawn (shape.Image k w h m) plan fs is = refl
drawn (shape.Element w h) plan fs is = absurd cc
drawn (shape.Curve n) plan fs is = absurd cc

-- of an operation that draws it is the last plane
pub image_is : (o : Op) (image : Picture) (b c : Option Figure) (first second third : Input) (plan : Plan) (f : Picture) → IsGiven o image b c first second third plan → is_image (shape_made o first) ≡ true
    → f ≡ slice_index_or (planes_on plan image) (length plan - 1) no_picture → result_of o (values_given image b c) ≡ Some (ImageValue f)
image_is o image b c first second third plan f given draws last =
    plan_means o image b c first second third plan given
    ∙ drawn (shape_made o first) plan (planes_on plan image) draws
    ∙ ap (λ (n : ℕ). Some (ImageValue (slice_index_or (planes_on plan image) (n - 1) no_picture))) (length-planes plan (image ∷ []) image.width image.height)
    ∙ ap (λ (g : Picture). Some (ImageValue g)) (sym last)

told : (o : Op) (image : Picture) (plan : Plan) (fs : List Picture) → is_image (shape_made o (input.Image (shape_of_picture image))) ≡ false → value_of_planes (shape_made o (input.Image (shape_of_picture image))) plan fs ≡ Some (CurveValue (numbers_from plan fs))
told (op.Flat (flat.Erode f e)) image plan fs no_image = absurd cc
told (op.Flat (flat.Dilate f e)) image plan fs no_image = absurd cc
told (op.Flat (flat.Opening f e)) image plan fs no_image = absurd cc
told (op.Flat (flat.Closing f e)) image plan fs no_image = absurd cc
told (op.Flat (flat.Gradient f e)) image plan fs no_image = absurd cc
told (op.Flat (flat.WhiteTopHat f e)) image plan fs no_image = absurd cc
told (op.Flat (flat.BlackTopHat f e)) image plan fs no_image = absurd cc
told (op.Flat (flat.Rank f e k)) image plan fs no_image = absurd cc
told (op.Flat (flat.Threshold f k)) image plan fs no_image = absurd cc
told (op.Flat (flat.HitMiss f hit miss)) image plan fs no_image = absurd cc
told (op.Gran (gran.Skeleton f e levels)) image plan fs no_image = absurd cc
told (op.Gran (gran.Restore f e levels)) image plan fs no_image = absurd cc
told (op.Gran (gran.Spectrum f e levels)) image plan fs no_image = refl

-- of one that doesn't, the numbers
pub curve_is : (o : Op) (image : Picture) (b c : Option Figure) (first second third : Input) (plan : Plan) (ns : List ℕ) → IsGiven o image b c first second third plan → is_image (shape_made o first) ≡ false
    → ns ≡ numbers_from plan (planes_on plan image) → result_of o (values_given image b c) ≡ Some (CurveValue ns)
curve_is o image b c first second third plan ns given no_image numbers =
    let as_given = given.first_is in
    plan_means o image b c first second third plan given
    ∙ ap (λ (i : Input). value_of_planes (shape_made o i) plan (planes_on plan image)) as_given
    ∙ told o image plan (planes_on plan image) (subst (λ (i : Input). is_image (shape_made o i) ≡ false) as_given no_image)
    ∙ ap (λ (ms : List ℕ). Some (CurveValue ms)) (sym numbers)

-- ---- the result is the operator

abbrev image_value : Picture → Option Value
image_value f = Some (ImageValue f)

abbrev no_value : Option Value
no_value = None

value_same : (f g : Picture) → image_value f ≡ image_value g → g ≡ f
value_same f g e = cc

none_is : (f : Picture) → no_value ≡ image_value f → ⊥
none_is f e = cc

flat_is : (o : FlatOp) (image : Picture) (b c : Option Figure) (f : Picture) → result_of (op.Flat o) (values_given image b c) ≡ Some (ImageValue f) → f ≡ operator_of o (offsets_given b) (offsets_given c) image
flat_is (flat.Erode f e) image None c g is = absurd (none_is g is)
flat_is (flat.Erode f e) image (Some b) c g is = value_same (erosion b.offsets image) g is
flat_is (flat.Dilate f e) image None c g is = absurd (none_is g is)
flat_is (flat.Dilate f e) image (Some b) c g is = value_same (dilation b.offsets image) g is
flat_is (flat.Opening f e) image None c g is = absurd (none_is g is)
flat_is (flat.Opening f e) image (Some b) c g is = value_same (opening b.offsets image) g is
flat_is (flat.Closing f e) image None c g is = absurd (none_is g is)
flat_is (flat.Closing f e) image (Some b) c g is = value_same (closing b.offsets image) g is
flat_is (flat.Gradient f e) image None c g is = absurd (none_is g is)
flat_is (flat.Gradient f e) image (Some b) c g is = value_same (gradient b.offsets image) g is
flat_is (flat.WhiteTopHat f e) image None c g is = absurd (none_is g is)
flat_is (flat.WhiteTopHat f e) image (Some b) c g is = value_same (white_top_hat b.offsets image) g is
flat_is (flat.BlackTopHat f e) image None c g is = absurd (none_is g is)
flat_is (flat.BlackTopHat f e) image (Some b) c g is = value_same (black_top_hat b.offsets image) g is
flat_is (flat.Rank f e k) image None c g is = absurd (none_is g is)
flat_is (flat.Rank f e k) image (Some b) c g is = value_same (rank b.offsets k image) g is
flat_is (flat.Threshold f k) image b c g is = value_same (threshold k image) g is
flat_is (flat.HitMiss f hit miss) image b None g is = absurd (none_is g is)
flat_is (flat.HitMiss f hit miss) image None (Some c) g is = absurd (none_is g is)
flat_is (flat.HitMiss f hit miss) image (Some b) (Some c) g is = value_same (hit_or_miss b.offsets c.offsets image) g is

pub operator_is : (o : Op) (flat_op : FlatOp) (image : Picture) (b c : Option Figure) (f : Picture) → result_of o (values_given image b c) ≡ Some (ImageValue f) → o ≡ op.Flat flat_op → f ≡ operator_of flat_op (offsets_given b) (offsets_given c) image
operator_is o flat_op image b c f result is = flat_is flat_op image b c f (ap (λ (x : Op). result_of x (values_given image b c)) (sym is) ∙ result)

-- ---- refusals

pub refused_alike : (o : Option PlanFault) (e : PlanFault) → IsRefusedBy {A = Plan} o (Err e) → IsRefusedBy {A = Made} o (Err e)
refused_alike (Some f) e is = let same : e ≡ f = cc in ap (λ (x : PlanFault). Err x) same
refused_alike None e is = is

pub accepted : (o : Option PlanFault) (plan : Plan) → IsRefusedBy {A = Plan} o (Ok plan) → o ≡ None
accepted (Some f) plan is = absurd cc
accepted None plan is = refl

-- ---- the inputs as the code has them

pub is_given : (o : Op) (image : Picture) (b c : Option (Bor (Arc Figure Global))) (s : Shape) (i j : Input) (plan : Plan) → IsImage image → s ≡ shape_of_picture image → i ≡ input_given b → j ≡ input_given c → IsPlanOf o (input.Image s) i j plan
    → IsGiven o image (figure_given b) (figure_given c) (input.Image s) i j plan
is_given o image b c s i j plan sound shape second third is = record {
  sound = sound;
  first_is = ap (λ (t : Shape). input.Image t) shape;
  second_is = subst (λ (k : Input). IsValueOf k (element_value (figure_given b))) (sym second) (value_given b);
  third_is = subst (λ (k : Input). IsValueOf k (element_value (figure_given c))) (sym third) (value_given c);
  plan_of = is;
}

pub fault_same : (o : Op) (image : Picture) (b c : Option (Bor (Arc Figure Global))) (s : Shape) (i j : Input) → s ≡ shape_of_picture image → i ≡ input_given b → j ≡ input_given c
    → fault_in o (input.Image s) i j ≡ fault_in o (input.Image (shape_of_picture image)) (input_given b) (input_given c)
fault_same o image b c s i j shape second third =
    ap (λ (t : Shape). fault_in o (input.Image t) i j) shape ∙ ap (λ (k : Input). fault_in o (input.Image (shape_of_picture image)) k j) second ∙ ap (λ (k : Input). fault_in o (input.Image (shape_of_picture image)) (input_given b) k) third
