-- The shape that a result has is the one that is known at acceptance.
use Rattle.std.proofs.Common.{◌≡◌, ℕ, zero, suc, ◌+◌, ◌<◌, true, false, List, [], ◌∷◌, length, map, Option, Some, None, refl, sym, ap, ◌∙◌, subst}
use Rattle.std.specs.Prelude.{option_map}
use Rattle.std.proofs.lemmas.List.FromFn.{length-map-range_with_len}
use Rattle.mw_model.specs.declared.names.Name.{Name}
use Rattle.mw_model.specs.declared.offsets.Offset.{Offset}
use Rattle.mw_model.specs.declared.shapes.Shape.{Shape}
use Rattle.mw_model.specs.declared.shapes.Shape.TheVariants as shape
use Rattle.mw_model.specs.declared.operations.Op.{Op}
use Rattle.mw_model.specs.declared.operations.Op.TheVariants as op
use Rattle.mw_model.specs.declared.operations.FlatOp.{FlatOp}
use Rattle.mw_model.specs.declared.operations.FlatOp.TheVariants as flat
use Rattle.mw_model.specs.declared.operations.GranOp.{GranOp}
use Rattle.mw_model.specs.declared.operations.GranOp.TheVariants as gran
use Rattle.mw_model.specs.Pictures.{Picture, IsImage}
use Rattle.mw_model.specs.Elements.{Figure}
use Rattle.mw_model.specs.Flat.{erosion, dilation, opening, closing, gradient, white_top_hat, black_top_hat, rank}
use Rattle.mw_model.specs.Iterates.{skeleton, restoration, volume}
use Rattle.mw_model.specs.Values.{Value, ImageValue, ElementValue, CurveValue, tickets, value_at, result_of, drawn_by, shape_of_picture, shape_of_figure}
use Rattle.mw_model.specs.Refusals.{Table, Wanted, AnImage, AnElement, ticket_of, shape_at, is_image, is_element, first_of, wanted_case, inputs_wanted}
use Rattle.mw_model.specs.Machine.{Machine, values, inputs_from, shape_named, shape_of_result, as_bits, as_grey}
use Rattle.mw_model_laws.specs.MachineLaws.{shape_of_value, ValuesHaveShapes, ValuesWithinLimits, WithinLimits}
use Rattle.mw_model_laws.proofs.RunTables.{first_none, input_found, ticket_is}

-- an image stands where the table tells an image
pub image_value : (v : Option Value) (s : Shape) → option_map shape_of_value v ≡ Some s → is_image s ≡ true → (g : Picture) × (v ≡ Some (ImageValue g)) × (s ≡ shape_of_picture g)
image_value None s h k = absurd cc
image_value (Some (ImageValue g)) s h k = (g, refl, cc)
image_value (Some (ElementValue b)) s h k = let e : shape_of_figure b ≡ s = cc in let f = ap is_image e in absurd cc
image_value (Some (CurveValue v)) s h k = let e : shape.Curve (length v) ≡ s = cc in let f = ap is_image e in absurd cc

element_value : (v : Option Value) (s : Shape) → option_map shape_of_value v ≡ Some s → is_element s ≡ true → (b : Figure) × (v ≡ Some (ElementValue b))
element_value None s h k = absurd cc
element_value (Some (ImageValue g)) s h k = let e : shape_of_picture g ≡ s = cc in let f = ap is_element e in absurd cc
element_value (Some (ElementValue b)) s h k = (b, refl)
element_value (Some (CurveValue v)) s h k = let e : shape.Curve (length v) ≡ s = cc in let f = ap is_element e in absurd cc

-- the image under the name of an input
named_image : (m : Machine) (f : Name) → ValuesHaveShapes m → wanted_case m.table (AnImage f) ≡ None
    → (t : ℕ) × (ticket_of m.table.names f ≡ Some t) × (g : Picture) × (value_at (values m) t ≡ Some (ImageValue g)) × (shape_named m.table f ≡ shape_of_picture g) × (t < length m.table.names)
named_image m f shapes h =
    let found = input_found m.table is_image f h in
    let t = found.0 in
    let image = image_value (value_at (values m) t) (shape_at m.table.submissions t) (shapes t found.1.within) found.1.kind in
    (t, found.1.found, image.0, image.1, ap (shape_at m.table.submissions) (ticket_is m.table f t found.1.found) ∙ image.2, found.1.within)

named_element : (m : Machine) (b : Name) → ValuesHaveShapes m → wanted_case m.table (AnElement b) ≡ None
    → (t : ℕ) × (ticket_of m.table.names b ≡ Some t) × (e : Figure) × (value_at (values m) t ≡ Some (ElementValue e))
named_element m b shapes h =
    let found = input_found m.table is_element b h in
    let t = found.0 in
    let element = element_value (value_at (values m) t) (shape_at m.table.submissions t) (shapes t found.1.within) found.1.kind in
    (t, found.1.found, element.0, element.1)

-- what stands at the inputs of an accepted command
abbrev pub input_values : Machine → List Wanted → List (Option Value)
input_values m ws = map (value_at (values m)) (tickets (inputs_from m.table ws))

one_value : (vs : List (Option Value)) (a : Option ℕ) (t : ℕ) (x : Option Value) → a ≡ Some t → value_at vs t ≡ x → map (value_at vs) (tickets (record { a = a; b = None; c = None })) ≡ x ∷ []
one_value vs a t x p q = rw p (rw q refl)

two_values : (vs : List (Option Value)) (a b : Option ℕ) (t u : ℕ) (x y : Option Value) → a ≡ Some t → b ≡ Some u → value_at vs t ≡ x → value_at vs u ≡ y
    → map (value_at vs) (tickets (record { a = a; b = b; c = None })) ≡ x ∷ y ∷ []
two_values vs a b t u x y p p' q q' = rw (p, p') (cons_same (value_at vs t) (value_at vs u) x y [] [] q q' refl)
  where
    cons_same : (v w x y : Option Value) (vs ws : List (Option Value)) → v ≡ x → w ≡ y → vs ≡ ws → v ∷ w ∷ vs ≡ x ∷ y ∷ ws
    cons_same v w x y vs ws p q r = cc

three_values : (vs : List (Option Value)) (a b c : Option ℕ) (t u v : ℕ) (x y z : Option Value) → a ≡ Some t → b ≡ Some u → c ≡ Some v → value_at vs t ≡ x → value_at vs u ≡ y → value_at vs v ≡ z
    → map (value_at vs) (tickets (record { a = a; b = b; c = c })) ≡ x ∷ y ∷ z ∷ []
three_values vs a b c t u v x y z p p' p'' q q' q'' = rw (p, p', p'') (cons_same (value_at vs t) (value_at vs u) (value_at vs v) x y z q q' q'')
  where
    cons_same : (r s t x y z : Option Value) → r ≡ x → s ≡ y → t ≡ z → r ∷ s ∷ t ∷ [] ≡ x ∷ y ∷ z ∷ []
    cons_same r s t x y z p q h = cc

-- an image alone
pub record IsAlone (m : Machine) (f : Name) : Type 0 where
  pub image : Picture
  pub values : input_values m (AnImage f ∷ []) ≡ Some (ImageValue image) ∷ []
  pub shape : shape_named m.table f ≡ shape_of_picture image
  pub limits : ValuesWithinLimits m → IsImage image

pub wanted_alone : (m : Machine) (f : Name) → ValuesHaveShapes m → first_of (map (wanted_case m.table) (AnImage f ∷ [])) ≡ None → IsAlone m f
wanted_alone m f shapes h =
    let x = first_none (wanted_case m.table (AnImage f)) _ h in
    let g = named_image m f shapes x.0 in
    record {
      image = g.2;
      values = one_value (values m) (ticket_of m.table.names f) g.0 _ g.1 g.3;
      shape = g.4;
      limits = λ l. subst WithinLimits g.3 (l g.0 g.5);
    }

-- an image and an element
pub record AreBoth (m : Machine) (f b : Name) : Type 0 where
  pub image : Picture
  pub element : Figure
  pub values : input_values m (AnImage f ∷ AnElement b ∷ []) ≡ Some (ImageValue image) ∷ Some (ElementValue element) ∷ []
  pub shape : shape_named m.table f ≡ shape_of_picture image
  pub limits : ValuesWithinLimits m → IsImage image

pub wanted_both : (m : Machine) (f b : Name) → ValuesHaveShapes m → first_of (map (wanted_case m.table) (AnImage f ∷ AnElement b ∷ [])) ≡ None → AreBoth m f b
wanted_both m f b shapes h =
    let x = first_none (wanted_case m.table (AnImage f)) _ h in
    let y = first_none (wanted_case m.table (AnElement b)) _ x.1 in
    let g = named_image m f shapes x.0 in
    let e = named_element m b shapes y.0 in
    record {
      image = g.2;
      element = e.2;
      values = two_values (values m) (ticket_of m.table.names f) (ticket_of m.table.names b) g.0 e.0 _ _ g.1 e.1 g.3 e.3;
      shape = g.4;
      limits = λ l. subst WithinLimits g.3 (l g.0 g.5);
    }

-- an image and two elements
pub record AreThree (m : Machine) (f hit miss : Name) : Type 0 where
  pub image : Picture
  pub first : Figure
  pub second : Figure
  pub values : input_values m (AnImage f ∷ AnElement hit ∷ AnElement miss ∷ []) ≡ Some (ImageValue image) ∷ Some (ElementValue first) ∷ Some (ElementValue second) ∷ []
  pub shape : shape_named m.table f ≡ shape_of_picture image
  pub limits : ValuesWithinLimits m → IsImage image

pub wanted_three : (m : Machine) (f hit miss : Name) → ValuesHaveShapes m → first_of (map (wanted_case m.table) (AnImage f ∷ AnElement hit ∷ AnElement miss ∷ [])) ≡ None → AreThree m f hit miss
wanted_three m f hit miss shapes h =
    let x = first_none (wanted_case m.table (AnImage f)) _ h in
    let y = first_none (wanted_case m.table (AnElement hit)) _ x.1 in
    let z = first_none (wanted_case m.table (AnElement miss)) _ y.1 in
    let g = named_image m f shapes x.0 in
    let b = named_element m hit shapes y.0 in
    let c = named_element m miss shapes z.0 in
    record {
      image = g.2;
      first = b.2;
      second = c.2;
      values = three_values (values m) (ticket_of m.table.names f) (ticket_of m.table.names hit) (ticket_of m.table.names miss) g.0 b.0 c.0 _ _ _ g.1 b.1 c.1 g.3 b.3 c.3;
      shape = g.4;
      limits = λ l. subst WithinLimits g.3 (l g.0 g.5);
    }

drawn_shape : (m : Machine) (f b : Name) (a : AreBoth m f b) (operator : List Offset → Picture → Picture) (change : Shape → Shape)
    → shape_of_picture (operator a.element.offsets a.image) ≡ change (shape_of_picture a.image)
    → option_map shape_of_value (drawn_by (input_values m (AnImage f ∷ AnElement b ∷ [])) operator) ≡ Some (change (shape_named m.table f))
drawn_shape m f b a operator change h =
    ap (λ l. option_map shape_of_value (drawn_by l operator)) a.values ∙ ap Some (h ∙ ap change (sym a.shape))

pub restoration_shape : (b : List Offset) (n : ℕ) (g : Picture) → shape_of_picture (restoration b n g) ≡ as_bits (shape_of_picture g)
restoration_shape b zero g = refl
restoration_shape b (suc n) g = restoration_shape b n g

pub flat_shape_is : (m : Machine) (o : FlatOp) → ValuesHaveShapes m → first_of (map (wanted_case m.table) (inputs_wanted (op.Flat o))) ≡ None
    → option_map shape_of_value (result_of (op.Flat o) (input_values m (inputs_wanted (op.Flat o)))) ≡ Some (shape_of_result m.table (op.Flat o))
flat_shape_is m (flat.Erode f b) shapes h = drawn_shape m f b (wanted_both m f b shapes h) erosion (λ s. s) refl
flat_shape_is m (flat.Dilate f b) shapes h = drawn_shape m f b (wanted_both m f b shapes h) dilation (λ s. s) refl
flat_shape_is m (flat.Opening f b) shapes h = drawn_shape m f b (wanted_both m f b shapes h) opening (λ s. s) refl
flat_shape_is m (flat.Closing f b) shapes h = drawn_shape m f b (wanted_both m f b shapes h) closing (λ s. s) refl
flat_shape_is m (flat.Gradient f b) shapes h = drawn_shape m f b (wanted_both m f b shapes h) gradient (λ s. s) refl
flat_shape_is m (flat.WhiteTopHat f b) shapes h = drawn_shape m f b (wanted_both m f b shapes h) white_top_hat (λ s. s) refl
flat_shape_is m (flat.BlackTopHat f b) shapes h = drawn_shape m f b (wanted_both m f b shapes h) black_top_hat (λ s. s) refl
flat_shape_is m (flat.Rank f b k) shapes h = drawn_shape m f b (wanted_both m f b shapes h) (λ e. rank e k) (λ s. s) refl
flat_shape_is m (flat.Threshold f k) shapes h =
    let a = wanted_alone m f shapes h in
    ap (λ l. option_map shape_of_value (result_of (op.Flat (flat.Threshold f k)) l)) a.values ∙ ap (λ s. Some (as_bits s)) (sym a.shape)
flat_shape_is m (flat.HitMiss f hit miss) shapes h =
    let a = wanted_three m f hit miss shapes h in
    ap (λ l. option_map shape_of_value (result_of (op.Flat (flat.HitMiss f hit miss)) l)) a.values ∙ ap Some (sym a.shape)

pub gran_shape_is : (m : Machine) (o : GranOp) → ValuesHaveShapes m → first_of (map (wanted_case m.table) (inputs_wanted (op.Gran o))) ≡ None
    → option_map shape_of_value (result_of (op.Gran o) (input_values m (inputs_wanted (op.Gran o)))) ≡ Some (shape_of_result m.table (op.Gran o))
gran_shape_is m (gran.Skeleton f b levels) shapes h = drawn_shape m f b (wanted_both m f b shapes h) (λ e. skeleton e levels) (as_grey (levels + 1)) refl
gran_shape_is m (gran.Restore f b levels) shapes h =
    let a = wanted_both m f b shapes h in
    drawn_shape m f b a (λ e. restoration e levels) as_bits (restoration_shape a.element.offsets levels a.image)
gran_shape_is m (gran.Spectrum f b levels) shapes h =
    let a = wanted_both m f b shapes h in
    ap (λ l. option_map shape_of_value (result_of (op.Gran (gran.Spectrum f b levels)) l)) a.values
    ∙ ap (λ n. Some (shape.Curve n)) (length-map-range_with_len (λ n. volume a.element.offsets n a.image) 0 (levels + 1))

-- the value of an accepted command has the shape that it was accepted with
pub result_shape : (m : Machine) (o : Op) → ValuesHaveShapes m → first_of (map (wanted_case m.table) (inputs_wanted o)) ≡ None
    → option_map shape_of_value (result_of o (input_values m (inputs_wanted o))) ≡ Some (shape_of_result m.table o)
result_shape m (op.Flat o) shapes h = flat_shape_is m o shapes h
result_shape m (op.Gran o) shapes h = gran_shape_is m o shapes h

-- ---- no command makes an element

pub no_element : (s : Shape) → is_image s ≡ true → is_element s ≡ false
no_element (shape.Image k w h m) e = refl
no_element (shape.Element w h) e = cc
no_element (shape.Curve n) e = refl

pub bits_no_element : (s : Shape) → is_image s ≡ true → is_element (as_bits s) ≡ false
bits_no_element (shape.Image k w h m) e = refl
bits_no_element (shape.Element w h) e = cc
bits_no_element (shape.Curve n) e = cc

pub grey_no_element : (maxval : ℕ) (s : Shape) → is_image s ≡ true → is_element (as_grey maxval s) ≡ false
grey_no_element maxval (shape.Image k w h m) e = refl
grey_no_element maxval (shape.Element w h) e = cc
grey_no_element maxval (shape.Curve n) e = cc

-- the first input of a command is an image
pub first_image : (w : Table) (f : Name) (more : List Wanted) → first_of (map (wanted_case w) (AnImage f ∷ more)) ≡ None → is_image (shape_named w f) ≡ true
first_image w f more h =
    let x = first_none (wanted_case w (AnImage f)) _ h in
    let found = input_found w is_image f x.0 in
    ap (λ t. is_image (shape_at w.submissions t)) (ticket_is w f found.0 found.1.found) ∙ found.1.kind

pub result_no_element : (w : Table) (o : Op) → first_of (map (wanted_case w) (inputs_wanted o)) ≡ None → is_element (shape_of_result w o) ≡ false
result_no_element w (op.Flat (flat.Erode f b)) h = no_element (shape_named w f) (first_image w f (AnElement b ∷ []) h)
result_no_element w (op.Flat (flat.Dilate f b)) h = no_element (shape_named w f) (first_image w f (AnElement b ∷ []) h)
result_no_element w (op.Flat (flat.Opening f b)) h = no_element (shape_named w f) (first_image w f (AnElement b ∷ []) h)
result_no_element w (op.Flat (flat.Closing f b)) h = no_element (shape_named w f) (first_image w f (AnElement b ∷ []) h)
result_no_element w (op.Flat (flat.Gradient f b)) h = no_element (shape_named w f) (first_image w f (AnElement b ∷ []) h)
result_no_element w (op.Flat (flat.WhiteTopHat f b)) h = no_element (shape_named w f) (first_image w f (AnElement b ∷ []) h)
result_no_element w (op.Flat (flat.BlackTopHat f b)) h = no_element (shape_named w f) (first_image w f (AnElement b ∷ []) h)
result_no_element w (op.Flat (flat.Rank f b k)) h = no_element (shape_named w f) (first_image w f (AnElement b ∷ []) h)
result_no_element w (op.Flat (flat.Threshold f k)) h = bits_no_element (shape_named w f) (first_image w f [] h)
result_no_element w (op.Flat (flat.HitMiss f hit miss)) h = no_element (shape_named w f) (first_image w f (AnElement hit ∷ AnElement miss ∷ []) h)
result_no_element w (op.Gran (gran.Skeleton f b levels)) h = grey_no_element (levels + 1) (shape_named w f) (first_image w f (AnElement b ∷ []) h)
result_no_element w (op.Gran (gran.Restore f b levels)) h = bits_no_element (shape_named w f) (first_image w f (AnElement b ∷ []) h)
result_no_element w (op.Gran (gran.Spectrum f b levels)) h = refl
