-- What an operation without a fault finds in its inputs.
use Rattle.std.proofs.Common.{◌≡◌, ℕ, ◌-◌, ◌<◌, ◌≤◌, Bool, true, false, List, [], ◌∷◌, length, Option, Some, None, refl, ap, subst, sym, arith, ◌∙◌}
use Rattle.std.specs.Prelude.{slice_index_or, count_by}
use Rattle.std.specs.List.{AllByRecursion}
use Rattle.std.specs.Arc.{arc_value}
use Rattle.mw_model.specs.declared.offsets.Offset.{Offset}
use Rattle.mw_model.specs.declared.shapes.Shape.{Shape}
use Rattle.mw_model.specs.declared.shapes.Shape.TheVariants as shape
use Rattle.mw_model.specs.declared.operations.Op.{Op}
use Rattle.mw_model.specs.declared.operations.Op.TheVariants as op
use Rattle.mw_model.specs.declared.operations.FlatOp.{FlatOp}
use Rattle.mw_model.specs.declared.operations.FlatOp.TheVariants as flat
use Rattle.mw_model.specs.Pictures.{Picture, IsImage}
use Rattle.mw_model.specs.Flat.{erosion, dilation, opening, closing, gradient, white_top_hat, black_top_hat, rank, threshold, hit_or_miss}
use Rattle.mw_model.specs.Elements.{Figure}
use Rattle.mw_model.specs.Machine.{as_bits, as_grey}
use Rattle.mw_model.specs.Refusals.{is_image}
use Rattle.mw_model.specs.Values.{Value, ImageValue, ElementValue, result_of, shape_of_picture}
use Rattle.mw_model.specs.Plans as model
use Rattle.mw_model.specs.Plans.{Plan, Source, FromInput, FromStep, IsSourceAt, images_of, is_sum, planes, value_of_planes}
use Rattle.mw_model.specs.Tasks.{nothing_planned}
use Rattle.mw_plan.specs.declared.faults.PlanFault.{PlanFault}
use Rattle.mw_plan.specs.declared.faults.PlanFault.TheVariants as fault
use Rattle.mw_plan.specs.declared.inputs.Input.{Input}
use Rattle.mw_plan.specs.declared.inputs.Input.TheVariants as input
use Rattle.mw_plan.specs.Asked.{is_image_input, is_element_input, image_shape, offsets_of_input, unless, first_fault, fault_in, shape_made}
use Rattle.mw_plan.specs.PlansOf.{IsValueOf, AreValuesOf, HaveFrame, IsPlanOf, IsPlaneSource, IsReadBy, CanBeMade, images_taken, inputs_taken, planes_read}
use Rattle.mw_plan.specs.Steps.{HasElements, Makes, last_plane, operator_of, step_count}

-- ---- no fault

-- no fault, so that what is asked first holds
pub none_first : (t : Bool) (f : PlanFault) (rest : List (Option PlanFault)) → first_fault (unless t f ∷ rest) ≡ None → (t ≡ true) × (first_fault rest ≡ None)
none_first true f rest none = (refl, none)
none_first false f rest none = absurd cc

-- an image stands in the first place
pub image_there : (o : FlatOp) (a b c : Input) → fault_in (op.Flat o) a b c ≡ None → is_image_input a ≡ true
image_there (flat.Erode f e) a b c none = (none_first (is_image_input a) (fault.Kind 0) _ none).0
image_there (flat.Dilate f e) a b c none = (none_first (is_image_input a) (fault.Kind 0) _ none).0
image_there (flat.Opening f e) a b c none = (none_first (is_image_input a) (fault.Kind 0) _ none).0
image_there (flat.Closing f e) a b c none = (none_first (is_image_input a) (fault.Kind 0) _ none).0
image_there (flat.Gradient f e) a b c none = (none_first (is_image_input a) (fault.Kind 0) _ none).0
image_there (flat.WhiteTopHat f e) a b c none = (none_first (is_image_input a) (fault.Kind 0) _ none).0
image_there (flat.BlackTopHat f e) a b c none = (none_first (is_image_input a) (fault.Kind 0) _ none).0
image_there (flat.Rank f e k) a b c none = (none_first (is_image_input a) (fault.Kind 0) _ none).0
image_there (flat.Threshold f k) a b c none = (none_first (is_image_input a) (fault.Kind 0) _ none).0
image_there (flat.HitMiss f hit miss) a b c none = (none_first (is_image_input a) (fault.Kind 0) _ none).0

-- an element stands in the second place
element_second : (a b : Input) (rest : List (Option PlanFault)) → first_fault (unless (is_image_input a) (fault.Kind 0) ∷ unless (is_element_input b) (fault.Kind 1) ∷ rest) ≡ None
    → (is_element_input b ≡ true) × (first_fault rest ≡ None)
element_second a b rest none =
    none_first (is_element_input b) (fault.Kind 1) rest (none_first (is_image_input a) (fault.Kind 0) (unless (is_element_input b) (fault.Kind 1) ∷ rest) none).1

pub elements_there : (o : FlatOp) (a b c : Input) → fault_in (op.Flat o) a b c ≡ None → HasElements o b c
elements_there (flat.Erode f e) a b c none = (element_second a b _ none).0
elements_there (flat.Dilate f e) a b c none = (element_second a b _ none).0
elements_there (flat.Opening f e) a b c none = (element_second a b _ none).0
elements_there (flat.Closing f e) a b c none = (element_second a b _ none).0
elements_there (flat.Gradient f e) a b c none = (element_second a b _ none).0
elements_there (flat.WhiteTopHat f e) a b c none = (element_second a b _ none).0
elements_there (flat.BlackTopHat f e) a b c none = (element_second a b _ none).0
elements_there (flat.Rank f e k) a b c none = (element_second a b _ none).0
elements_there (flat.Threshold f k) a b c none = tt
elements_there (flat.HitMiss f hit miss) a b c none =
    let two = element_second a b _ none in
    (two.0, (none_first (is_element_input c) (fault.Kind 2) _ two.1).0)

-- ---- values in the inputs

-- the image may stand in the input
pub record Suits (a : Input) (f : Picture) : Type 0 where
  pub image : IsImage f
  pub shape : shape_of_picture f ≡ image_shape a

record HasImage (a : Input) (v : Option Value) : Type 0 where
  image : Picture
  is : v ≡ Some (ImageValue image)
  suits : Suits a image

image_value : (a : Input) (v : Option Value) → is_image_input a ≡ true → IsValueOf a v → HasImage a v
image_value (input.Image s) v there is = record { image = is.0; is = is.1; suits = record { image = is.2; shape = is.3 } }
image_value (input.Element e) v there is = absurd cc
image_value input.Curve v there is = absurd cc
image_value input.Absent v there is = absurd cc

record HasElement (b : Input) (v : Option Value) : Type 0 where
  figure : Figure
  is : v ≡ Some (ElementValue figure)
  offsets : figure.offsets ≡ offsets_of_input b

element_value : (b : Input) (v : Option Value) → is_element_input b ≡ true → IsValueOf b v → HasElement b v
element_value (input.Image s) v there is = absurd cc
element_value (input.Element e) v there is = record { figure = arc_value e.now; is = is; offsets = refl }
element_value input.Curve v there is = absurd cc
element_value input.Absent v there is = absurd cc

-- What an operation on one image finds: the image alone among its images, which fits, and its value.
pub record Finds (o : Op) (Fits : Picture → Type 0) (values : List (Option Value)) (result : Picture → Value) : Type 0 where
  pub image : Picture
  pub fits : Fits image
  pub alone : images_of values ≡ image ∷ []
  pub value : result_of o values ≡ Some (result image)

-- the inputs of an image, an element and perhaps one more, and what holds of all values that come to stand there
abbrev pub one_by : Picture → List (Option Value)
one_by f = Some (ImageValue f) ∷ []

abbrev pub two_by : Picture → Figure → List (Option Value)
two_by f g = Some (ImageValue f) ∷ Some (ElementValue g) ∷ []

abbrev three_by : Picture → Figure → Figure → List (Option Value)
three_by f g h = Some (ImageValue f) ∷ Some (ElementValue g) ∷ Some (ElementValue h) ∷ []

one : (P : List (Option Value) → Type 0) (a : Input) → is_image_input a ≡ true → ((f : Picture) → Suits a f → P (one_by f)) → (values : List (Option Value)) → AreValuesOf (a ∷ []) values → P values
one P a p each [] are = absurd are
one P a p each (v ∷ []) are =
    let x = image_value a v p are.0 in
    subst (λ (t : Option Value). P (t ∷ [])) (sym x.is) (each x.image x.suits)
one P a p each (v ∷ w ∷ vs) are = absurd are.1

two : (P : List (Option Value) → Type 0) (a b : Input) → is_image_input a ≡ true → is_element_input b ≡ true
    → ((f : Picture) (g : Figure) → Suits a f → g.offsets ≡ offsets_of_input b → P (two_by f g)) → (values : List (Option Value)) → AreValuesOf (a ∷ b ∷ []) values → P values
two P a b p q each [] are = absurd are
two P a b p q each (v ∷ []) are = absurd are.1
two P a b p q each (v ∷ w ∷ []) are =
    let x = image_value a v p are.0 in
    let y = element_value b w q are.1.0 in
    subst (λ (t : Option Value). P (t ∷ w ∷ [])) (sym x.is) (subst (λ (t : Option Value). P (Some (ImageValue x.image) ∷ t ∷ [])) (sym y.is) (each x.image y.figure x.suits y.offsets))
two P a b p q each (v ∷ w ∷ u ∷ vs) are = absurd are.1.1

three : (P : List (Option Value) → Type 0) (a b c : Input) → is_image_input a ≡ true → is_element_input b ≡ true → is_element_input c ≡ true
    → ((f : Picture) (g h : Figure) → Suits a f → g.offsets ≡ offsets_of_input b → h.offsets ≡ offsets_of_input c → P (three_by f g h)) → (values : List (Option Value)) → AreValuesOf (a ∷ b ∷ c ∷ []) values → P values
three P a b c p q r each [] are = absurd are
three P a b c p q r each (v ∷ []) are = absurd are.1
three P a b c p q r each (v ∷ w ∷ []) are = absurd are.1.1
three P a b c p q r each (v ∷ w ∷ u ∷ []) are =
    let x = image_value a v p are.0 in
    let y = element_value b w q are.1.0 in
    let z = element_value c u r are.1.1.0 in
    subst (λ (t : Option Value). P (t ∷ w ∷ u ∷ [])) (sym x.is)
    (subst (λ (t : Option Value). P (Some (ImageValue x.image) ∷ t ∷ u ∷ [])) (sym y.is)
    (subst (λ (t : Option Value). P (Some (ImageValue x.image) ∷ Some (ElementValue y.figure) ∷ t ∷ [])) (sym z.is) (each x.image y.figure z.figure x.suits y.offsets z.offsets)))
three P a b c p q r each (v ∷ w ∷ u ∷ t ∷ vs) are = absurd are.1.1.1

pub finds_two : (o : Op) (Fits : Picture → Type 0) (result : List Offset → Picture → Value) (a b : Input) → is_image_input a ≡ true → is_element_input b ≡ true
    → ((f : Picture) → Suits a f → Fits f) → ((f : Picture) (g : Figure) → result_of o (two_by f g) ≡ Some (result g.offsets f))
    → (values : List (Option Value)) → AreValuesOf (a ∷ b ∷ []) values → Finds o Fits values (result (offsets_of_input b))
finds_two o Fits result a b p q fits value =
    two (λ vs. Finds o Fits vs (result (offsets_of_input b))) a b p q (λ f g suits offsets. record {
      image = f;
      fits = fits f suits;
      alone = refl;
      value = value f g ∙ ap (λ (e : List Offset). Some (result e f)) offsets;
    })

-- ---- from plans of one image to plans of operations

-- The plan of 1 to 896 steps reads one image. Of each image that fits, each step can be made, and the planes mean this result, which is of this shape. No Sum step is read, and none makes an image.
pub record MeansOf (Fits : Picture → Type 0) (s : Shape) (result : Picture → Value) (plan : Plan) : Type 0 where
  pub some : 1 ≤ length plan
  pub few : length plan ≤ 896
  pub sources : (k : ℕ) → AllByRecursion (IsSourceAt 1 k) (slice_index_or plan k nothing_planned).sources
  pub planes : (k : ℕ) → AllByRecursion (IsPlaneSource plan) (slice_index_or plan k nothing_planned).sources
  pub last : is_image s ≡ true → is_sum (slice_index_or plan (length plan - 1) nothing_planned).step ≡ false
  pub read : IsReadBy plan 0
  pub made : (f : Picture) → Fits f → (k : ℕ) → k < length plan → CanBeMade (slice_index_or plan k nothing_planned).step (planes_read plan (f ∷ []) f.width f.height k)
  pub value : (f : Picture) → Fits f → value_of_planes s plan (model.planes plan (f ∷ []) f.width f.height) ≡ Some (result f)

of_alone : (P : List Picture → ℕ → ℕ → Type 0) (f : Picture) (images : List Picture) (width height : ℕ) → images ≡ f ∷ [] → HaveFrame width height images → P (f ∷ []) f.width f.height → P images width height
of_alone P f images width height alone frames p =
    let frame = subst (HaveFrame width height) alone frames in
    subst (λ (t : List Picture). P t width height) (sym alone) (subst (λ (w : ℕ). P (f ∷ []) w height) frame.0.0 (subst (P (f ∷ []) f.width) frame.0.1 p))

pub plan_of_image : (o : Op) (a b c : Input) (Fits : Picture → Type 0) (result : Picture → Value) (plan : Plan) → images_taken o a b c ≡ 1
    → ((values : List (Option Value)) → AreValuesOf (inputs_taken o a b c) values → Finds o Fits values result) → MeansOf Fits (shape_made o a) result plan → IsPlanOf o a b c plan
plan_of_image o a b c Fits result plan one finds makes = record {
  some = makes.some;
  few = makes.few;
  one = one;
  sources = λ k. subst (λ (n : ℕ). AllByRecursion (IsSourceAt n k) (slice_index_or plan k nothing_planned).sources) (sym one) (makes.sources k);
  planes = makes.planes;
  last = makes.last;
  read = λ i lt. subst (IsReadBy plan) (sym (first i lt)) makes.read;
  made = λ values width height k are frames lt.
      let found = finds values are in
      of_alone (λ images w h. CanBeMade (slice_index_or plan k nothing_planned).step (planes_read plan images w h k)) found.image (images_of values) width height found.alone frames (makes.made found.image found.fits k lt);
  means = λ values width height are frames.
      let found = finds values are in
      of_alone (λ images w h. value_of_planes (shape_made o a) plan (planes plan images w h) ≡ result_of o values) found.image (images_of values) width height found.alone frames
      (makes.value found.image found.fits ∙ sym found.value);
}
  where
    first : (i : ℕ) → i < images_taken o a b c → i ≡ 0
    first i lt = let e = one in omega arith

-- the value of a plan whose result is an image
pub drawn_value : (s : Shape) (plan : Plan) (f g : Picture) → is_image s ≡ true → last_plane plan f ≡ g → value_of_planes s plan (planes plan (f ∷ []) f.width f.height) ≡ Some (ImageValue g)
drawn_value (shape.Image k w h m) plan f g drawn last = ap (λ (t : Picture). Some (ImageValue t)) last
drawn_value (shape.Element w h) plan f g drawn last = absurd cc
drawn_value (shape.Curve n) plan f g drawn last = absurd cc

-- no step is a Sum, so none is read
none_read : (plan : Plan) → ((k : ℕ) → is_sum (slice_index_or plan k nothing_planned).step ≡ false) → (sources : List Source) → AllByRecursion (IsPlaneSource plan) sources
none_read plan unsummed [] = tt
none_read plan unsummed (FromInput i ∷ sources) = (tt, none_read plan unsummed sources)
none_read plan unsummed (FromStep i ∷ sources) = (unsummed i, none_read plan unsummed sources)

makes_means : (Fits : Picture → Type 0) (s : Shape) (count : ℕ) (operator : Picture → Picture) (plan : Plan) → is_image s ≡ true → Makes count operator plan → MeansOf Fits s (λ f. ImageValue (operator f)) plan
makes_means Fits s count operator plan drawn makes = record {
  some = let some = makes.some in let steps = makes.steps in omega arith;
  few = let few = makes.few in let steps = makes.steps in omega arith;
  sources = makes.sources;
  planes = λ k. none_read plan makes.unsummed (slice_index_or plan k nothing_planned).sources;
  last = λ is. makes.unsummed (length plan - 1);
  read = makes.read;
  made = λ f fits. makes.made f;
  value = λ f fits. drawn_value s plan f (operator f) drawn (makes.last f);
}

-- ---- flat operations

element_no_image : (b : Input) → is_element_input b ≡ true → is_image_input b ≡ false
element_no_image (input.Image s) there = absurd cc
element_no_image (input.Element e) there = refl
element_no_image input.Curve there = absurd cc
element_no_image input.Absent there = absurd cc

pub count_one : (a : Input) → is_image_input a ≡ true → count_by is_image_input (a ∷ []) ≡ 1
count_one a p = rw p refl

pub count_two : (a b : Input) → is_image_input a ≡ true → is_element_input b ≡ true → count_by is_image_input (a ∷ b ∷ []) ≡ 1
count_two a b p q = rw (p, element_no_image b q) refl

pub count_three : (a b c : Input) → is_image_input a ≡ true → is_element_input b ≡ true → is_element_input c ≡ true → count_by is_image_input (a ∷ b ∷ c ∷ []) ≡ 1
count_three a b c p q r = rw (p, element_no_image b q, element_no_image c r) refl

-- the image in the first place has the shape of one
pub image_drawn : (a : Input) → is_image_input a ≡ true → is_image (image_shape a) ≡ true
image_drawn (input.Image s) there = there
image_drawn (input.Element e) there = absurd cc
image_drawn input.Curve there = absurd cc
image_drawn input.Absent there = absurd cc

pub bits_drawn : (s : Shape) → is_image (as_bits s) ≡ is_image s
bits_drawn (shape.Image k w h m) = refl
bits_drawn (shape.Element w h) = refl
bits_drawn (shape.Curve n) = refl

pub grey_drawn : (maxval : ℕ) (s : Shape) → is_image (as_grey maxval s) ≡ is_image s
grey_drawn maxval (shape.Image k w h m) = refl
grey_drawn maxval (shape.Element w h) = refl
grey_drawn maxval (shape.Curve n) = refl

-- one image among the inputs, and an image as the result
record TakesOne (o : Op) (a b c : Input) : Type 0 where
  images : images_taken o a b c ≡ 1
  drawn : is_image (shape_made o a) ≡ true

-- an operation whose result has the shape of its image
like_image : (o : Op) (a b c : Input) → is_image_input a ≡ true → images_taken o a b c ≡ 1 → shape_made o a ≡ image_shape a → TakesOne o a b c
like_image o a b c p one is = record { images = one; drawn = ap is_image is ∙ image_drawn a p }

flat_takes : (o : FlatOp) (a b c : Input) → is_image_input a ≡ true → HasElements o b c → TakesOne (op.Flat o) a b c
flat_takes (flat.Erode f e) a b c p q = like_image (op.Flat (flat.Erode f e)) a b c p (count_two a b p q) refl
flat_takes (flat.Dilate f e) a b c p q = like_image (op.Flat (flat.Dilate f e)) a b c p (count_two a b p q) refl
flat_takes (flat.Opening f e) a b c p q = like_image (op.Flat (flat.Opening f e)) a b c p (count_two a b p q) refl
flat_takes (flat.Closing f e) a b c p q = like_image (op.Flat (flat.Closing f e)) a b c p (count_two a b p q) refl
flat_takes (flat.Gradient f e) a b c p q = like_image (op.Flat (flat.Gradient f e)) a b c p (count_two a b p q) refl
flat_takes (flat.WhiteTopHat f e) a b c p q = like_image (op.Flat (flat.WhiteTopHat f e)) a b c p (count_two a b p q) refl
flat_takes (flat.BlackTopHat f e) a b c p q = like_image (op.Flat (flat.BlackTopHat f e)) a b c p (count_two a b p q) refl
flat_takes (flat.Rank f e k) a b c p q = like_image (op.Flat (flat.Rank f e k)) a b c p (count_two a b p q) refl
flat_takes (flat.Threshold f k) a b c p q = record { images = count_one a p; drawn = bits_drawn (image_shape a) ∙ image_drawn a p }
flat_takes (flat.HitMiss f hit miss) a b c p q = like_image (op.Flat (flat.HitMiss f hit miss)) a b c p (count_three a b c p q.0 q.1) refl

-- an operation on an image by an element
by_element : (o : Op) (operator : List Offset → Picture → Picture) (a b : Input) → is_image_input a ≡ true → is_element_input b ≡ true
    → ((f : Picture) (g : Figure) → result_of o (two_by f g) ≡ Some (ImageValue (operator g.offsets f)))
    → (values : List (Option Value)) → AreValuesOf (a ∷ b ∷ []) values → Finds o (Suits a) values (λ f. ImageValue (operator (offsets_of_input b) f))
by_element o operator a b p q = finds_two o (Suits a) (λ e f. ImageValue (operator e f)) a b p q (λ f suits. suits)

flat_finds : (o : FlatOp) (a b c : Input) → is_image_input a ≡ true → HasElements o b c → (values : List (Option Value)) → AreValuesOf (inputs_taken (op.Flat o) a b c) values
    → Finds (op.Flat o) (Suits a) values (λ f. ImageValue (operator_of o (offsets_of_input b) (offsets_of_input c) f))
flat_finds (flat.Erode f e) a b c p q = by_element (op.Flat (flat.Erode f e)) erosion a b p q (λ f g. refl)
flat_finds (flat.Dilate f e) a b c p q = by_element (op.Flat (flat.Dilate f e)) dilation a b p q (λ f g. refl)
flat_finds (flat.Opening f e) a b c p q = by_element (op.Flat (flat.Opening f e)) opening a b p q (λ f g. refl)
flat_finds (flat.Closing f e) a b c p q = by_element (op.Flat (flat.Closing f e)) closing a b p q (λ f g. refl)
flat_finds (flat.Gradient f e) a b c p q = by_element (op.Flat (flat.Gradient f e)) gradient a b p q (λ f g. refl)
flat_finds (flat.WhiteTopHat f e) a b c p q = by_element (op.Flat (flat.WhiteTopHat f e)) white_top_hat a b p q (λ f g. refl)
flat_finds (flat.BlackTopHat f e) a b c p q = by_element (op.Flat (flat.BlackTopHat f e)) black_top_hat a b p q (λ f g. refl)
flat_finds (flat.Rank f e k) a b c p q = by_element (op.Flat (flat.Rank f e k)) (λ d. rank d k) a b p q (λ f g. refl)
flat_finds (flat.Threshold f k) a b c p q = one (λ vs. Finds (op.Flat (flat.Threshold f k)) (Suits a) vs (λ g. ImageValue (threshold k g))) a p (λ g suits. record { image = g; fits = suits; alone = refl; value = refl })
flat_finds (flat.HitMiss f hit miss) a b c p q =
    three (λ vs. Finds (op.Flat (flat.HitMiss f hit miss)) (Suits a) vs (λ g. ImageValue (hit_or_miss (offsets_of_input b) (offsets_of_input c) g))) a b c p q.0 q.1 (λ f g h suits first second. record {
      image = f;
      fits = suits;
      alone = refl;
      value = ap (λ (e : List Offset). Some (ImageValue (hit_or_miss e h.offsets f))) first ∙ ap (λ (d : List Offset). Some (ImageValue (hit_or_miss (offsets_of_input b) d f))) second;
    })

pub flat_plan : (o : FlatOp) (a b c : Input) (plan : Plan) → fault_in (op.Flat o) a b c ≡ None → Makes (step_count o) (operator_of o (offsets_of_input b) (offsets_of_input c)) plan → IsPlanOf (op.Flat o) a b c plan
flat_plan o a b c plan none makes =
    let p = image_there o a b c none in
    let q = elements_there o a b c none in
    let operator = operator_of o (offsets_of_input b) (offsets_of_input c) in
    let takes = flat_takes o a b c p q in
    plan_of_image (op.Flat o) a b c (Suits a) (λ f. ImageValue (operator f)) plan takes.images (flat_finds o a b c p q)
    (makes_means (Suits a) (shape_made (op.Flat o) a) (step_count o) operator plan takes.drawn makes)
