-- What the work under a ticket reads: one image, of the level and frame that are known since it was accepted.
use Rattle.std.proofs.Common.{◌≡◌, ℕ, ◌<◌, true, List, [], ◌∷◌, ◌++◌, map, length, Option, Some, None, refl, ap, ◌∙◌, subst, arith}
use Rattle.std.specs.Prelude.{option_map, filter_map}
use Rattle.std.specs.List.{AllByRecursion}
use Rattle.mw_model.proofs.mw_facts.Alls.{all-append}
use Rattle.mw_model.specs.declared.shapes.Shape.{Shape}
use Rattle.mw_model.specs.declared.shapes.Shape.TheVariants as shape
use Rattle.mw_model.specs.declared.submissions.Inputs.{Inputs}
use Rattle.mw_model.specs.Pictures.{Picture}
use Rattle.mw_model.specs.Values.{Value, ImageValue, ElementValue, CurveValue, image_of, value_at, tickets, option_list, shape_of_picture, shape_of_figure}
use Rattle.mw_model.specs.Refusals.{shape_at, submission_at, is_element, is_image}
use Rattle.mw_model.specs.Machine.{Machine, values}
use Rattle.mw_model.specs.Plans.{images_of}
use Rattle.mw_model.specs.Stands.{input_values}
use Rattle.mw_core_laws.specs.mw_model_laws.MachineLaws.{IsSound, shape_of_value}
use Rattle.mw_core_laws.specs.mw_core_progress.ProgressView.{ProgressView}
use Rattle.mw_core_tasks.specs.SourceWindows.{IsInputOfTicket}

-- an entry of an element's shape has no image
element-value : (v : Option Value) (s : Shape) → option_map shape_of_value v ≡ Some s → is_element s ≡ true → image_of v ≡ None
element-value None s h e = refl
element-value (Some (ImageValue g)) s h e = let is : shape_of_picture g ≡ s = cc in let f = ap is_element is in absurd cc
element-value (Some (ElementValue b)) s h e = refl
element-value (Some (CurveValue v)) s h e = refl

-- an entry of an image's shape has an image of this shape
image-value : (v : Option Value) (s t : Shape) → option_map shape_of_value v ≡ Some s → s ≡ t → is_image t ≡ true → (f : Picture) × (v ≡ Some (ImageValue f)) × (shape_of_picture f ≡ t)
image-value None s t h is i = absurd cc
image-value (Some (ImageValue f)) s t h is i = (f, refl, cc)
image-value (Some (ElementValue b)) s t h is i = let e : shape_of_figure b ≡ t = cc in let f = ap is_image e in absurd cc
image-value (Some (CurveValue v)) s t h is i = let e : shape.Curve (length v) ≡ t = cc in let f = ap is_image e in absurd cc

no-images : (m : Machine) (n : ℕ) (xs : List ℕ) → ((i : ℕ) → i < n → option_map shape_of_value (value_at (values m) i) ≡ Some (shape_at m.table.submissions i)) → AllByRecursion (λ i. i < n) xs
    → AllByRecursion (λ i. is_element (shape_at m.table.submissions i) ≡ true) xs → filter_map image_of (map (value_at (values m)) xs) ≡ []
no-images m n [] shapes below elements = refl
no-images m n (x ∷ xs) shapes below elements = rw (element-value (value_at (values m) x) (shape_at m.table.submissions x) (shapes x below.0) elements.0) (no-images m n xs shapes below.1 elements.1)

only-image : (v : Option Value) (f : Picture) (vs : List (Option Value)) → v ≡ Some (ImageValue f) → filter_map image_of vs ≡ [] → filter_map image_of (v ∷ vs) ≡ f ∷ []
only-image v f vs e none = rw e (ap (λ fs. f ∷ fs) none)

-- what is known of the image that a task reads
pub record ReadsImage (m : Machine) (t : ℕ) (u : ProgressView) (image : ℕ) : Type 0 where
  pub within : image < length m.table.names
  pub picture : Picture
  pub value : value_at (values m) image ≡ Some (ImageValue picture)
  pub images : images_of (input_values m t) ≡ picture ∷ []
  pub shape : shape_of_picture picture ≡ shape.Image u.input.kind u.tiling.width u.tiling.height u.input.maxval

all-tickets : (P : ℕ → Type 0) (i : Inputs) (x : ℕ) → i.a ≡ Some x → AllByRecursion P (tickets i) → AllByRecursion P (x ∷ option_list i.b ++ option_list i.c)
all-tickets P i x first all = let Q : Option ℕ → Type 0 = λ a. AllByRecursion P (option_list a ++ option_list i.b ++ option_list i.c) in subst Q first all

-- the command of a ticket that is there reads one image, its first input
pub reads-image : (m : Machine) (t : ℕ) (u : ProgressView) → IsSound m → t < length m.table.names → (r : IsInputOfTicket m.table t u) → ReadsImage m t u r.image
reads-image m t u s within r =
    let inputs = (submission_at m.table.submissions t).inputs in
    let i = r.image in
    let more = option_list inputs.b ++ option_list inputs.c in
    let below = all-tickets (λ x. x < t) inputs i r.first (s.inputs t within) in
    let elements = all-append (λ x. is_element (shape_at m.table.submissions x) ≡ true) (option_list inputs.b) (option_list inputs.c) r.second r.third in
    let found = image-value (value_at (values m) i) (shape_at m.table.submissions i) (shape.Image u.input.kind u.tiling.width u.tiling.height u.input.maxval) (s.shapes i (omega (arith, below.0, within))) r.shape refl in
    let rest : filter_map image_of (map (value_at (values m)) more) ≡ [] = no-images m t more (λ x l. s.shapes x (omega (arith, l, within))) below.1 elements in
    let own : tickets inputs ≡ i ∷ more = ap (λ a. option_list a ++ option_list inputs.b ++ option_list inputs.c) r.first in
    record {
      within = omega (arith, below.0, within);
      picture = found.0;
      value = found.1;
      images = ap (λ xs. filter_map image_of (map (value_at (values m)) xs)) own ∙ only-image (value_at (values m) i) found.0 (map (value_at (values m)) more) found.1 rest;
      shape = found.2;
    }
