-- A result is an image within the limits of a file.
use Rattle.std.proofs.Common.{◌≡◌, ℕ, ◌+◌, ◌&&◌, leb, List, [], ◌∷◌, map, Option, None, refl, sym, subst, arith}
use Rattle.std.proofs.lemmas.Bool.{leb-true, and_parts}
use Rattle.mw_model.specs.declared.limits.TheConstants.{TURN_LIMIT}
use Rattle.mw_model.specs.declared.names.Name.{Name}
use Rattle.mw_model.specs.declared.offsets.Offset.{Offset}
use Rattle.mw_model.specs.declared.shapes.Kind.{Kind}
use Rattle.mw_model.specs.declared.shapes.Kind.TheVariants.{Bit, Grey}
use Rattle.mw_model.specs.declared.operations.Op.{Op}
use Rattle.mw_model.specs.declared.operations.Op.TheVariants as op
use Rattle.mw_model.specs.declared.operations.FlatOp.{FlatOp}
use Rattle.mw_model.specs.declared.operations.FlatOp.TheVariants as flat
use Rattle.mw_model.specs.declared.operations.GranOp.{GranOp}
use Rattle.mw_model.specs.declared.operations.GranOp.TheVariants as gran
use Rattle.mw_model.specs.declared.codes.Code.TheVariants as code
use Rattle.mw_model.specs.Pictures.{Picture, FitsKind, IsPicture, IsImage}
use Rattle.mw_model.specs.Flat.{erosion, dilation, opening, closing, gradient, white_top_hat, black_top_hat, rank, threshold, hit_or_miss}
use Rattle.mw_model.specs.Iterates.{skeleton, restoration}
use Rattle.mw_model.specs.Values.{Value, drawn_by, result_of, shape_of_picture}
use Rattle.mw_model.specs.Refusals.{AnImage, AnElement, first_of, wanted_case, inputs_wanted, op_cases, binary_case, origin_case, param_case}
use Rattle.mw_model.specs.Machine.{Machine, as_bits}
use Rattle.mw_model_laws.specs.MachineLaws.{ValuesHaveShapes, ValuesWithinLimits, WithinLimits}
use Rattle.mw_model.proofs.ImageLaws.{erosion_picture, dilation_picture, minus_picture, threshold_picture, rank_picture, skeleton_picture}
use Rattle.mw_model_laws.proofs.SetLaws.{opening_picture, closing_picture}
use Rattle.mw_model.proofs.SkeletonLaws.{restoration_picture}
use Rattle.mw_model_laws.proofs.RunTables.{first_none, when_not}
use Rattle.mw_model_laws.proofs.RunShapes.{AreBoth, wanted_alone, wanted_both, wanted_three, input_values, restoration_shape}

-- a picture with the sides of an image
IsImage-of_size : (f g : Picture) → IsPicture g → FitsKind g.kind g.maxval → g.width ≡ f.width → g.height ≡ f.height → IsImage f → IsImage g
IsImage-of_size f g picture fits across down image = record {
  picture = picture;
  maxval = fits;
  width = (omega (arith, image.width), omega (arith, image.width));
  height = (omega (arith, image.height), omega (arith, image.height));
  area = rw (across, down) image.area;
}

fits_bit : (k : Kind) (m : ℕ) → k ≡ Bit → m ≡ 1 → FitsKind k m
fits_bit k m e f = rw e f

IsImage-restoration : (b : List Offset) (n : ℕ) (f : Picture) → IsImage f → IsImage (restoration b n f)
IsImage-restoration b n f image =
    let g = restoration b n f in
    let e : shape_of_picture g ≡ as_bits (shape_of_picture f) = restoration_shape b n f in
    IsImage-of_size f g (restoration_picture b n f) (fits_bit g.kind g.maxval (cc) (cc)) (cc) (cc) image

-- what an operator draws
drawn_limits : (m : Machine) (f b : Name) (a : AreBoth m f b) (operator : List Offset → Picture → Picture) → IsImage (operator a.element.offsets a.image)
    → WithinLimits (drawn_by (input_values m (AnImage f ∷ AnElement b ∷ [])) operator)
drawn_limits m f b a operator h = let P : List (Option Value) → Type 0 = λ l. WithinLimits (drawn_by l operator) in subst P (sym a.values) h

-- an operator that keeps kind, sides and maxval
IsImage-of_shape : (f g : Picture) → shape_of_picture g ≡ shape_of_picture f → IsPicture g → IsImage f → IsImage g
IsImage-of_shape f g e picture image =
    let fits : FitsKind g.kind g.maxval = fits_same f.kind g.kind f.maxval g.maxval (cc) (cc) image.maxval in
    IsImage-of_size f g picture fits (cc) (cc) image
  where
    fits_same : (k l : Kind) (m n : ℕ) → l ≡ k → n ≡ m → FitsKind k m → FitsKind l n
    fits_same k l m n p q h = rw (p, q) h

keeps : (m : Machine) (f b : Name) (shapes : ValuesHaveShapes m) (limits : ValuesWithinLimits m) (h : first_of (map (wanted_case m.table) (AnImage f ∷ AnElement b ∷ [])) ≡ None)
    (operator : List Offset → Picture → Picture) → ((e : List Offset) (g : Picture) → shape_of_picture (operator e g) ≡ shape_of_picture g) → ((e : List Offset) (g : Picture) → IsPicture g → IsPicture (operator e g))
    → WithinLimits (drawn_by (input_values m (AnImage f ∷ AnElement b ∷ [])) operator)
keeps m f b shapes limits h operator same picture =
    let a = wanted_both m f b shapes h in
    let image = a.limits limits in
    drawn_limits m f b a operator (IsImage-of_shape a.image (operator a.element.offsets a.image) (same a.element.offsets a.image) (picture a.element.offsets a.image image.picture) image)

flat_limits : (m : Machine) (o : FlatOp) → ValuesHaveShapes m → ValuesWithinLimits m → first_of (map (wanted_case m.table) (inputs_wanted (op.Flat o))) ≡ None
    → WithinLimits (result_of (op.Flat o) (input_values m (inputs_wanted (op.Flat o))))
flat_limits m (flat.Erode f b) shapes limits h = keeps m f b shapes limits h erosion (λ e g. refl) (λ e g p. erosion_picture e g)
flat_limits m (flat.Dilate f b) shapes limits h = keeps m f b shapes limits h dilation (λ e g. refl) (λ e g p. dilation_picture e g p)
flat_limits m (flat.Opening f b) shapes limits h = keeps m f b shapes limits h opening (λ e g. refl) (λ e g p. opening_picture e g)
flat_limits m (flat.Closing f b) shapes limits h = keeps m f b shapes limits h closing (λ e g. refl) (λ e g p. closing_picture e g)
flat_limits m (flat.Gradient f b) shapes limits h = keeps m f b shapes limits h gradient (λ e g. refl) (λ e g p. minus_picture (dilation e g) (erosion e g) (dilation_picture e g p))
flat_limits m (flat.WhiteTopHat f b) shapes limits h = keeps m f b shapes limits h white_top_hat (λ e g. refl) (λ e g p. minus_picture g (opening e g) p)
flat_limits m (flat.BlackTopHat f b) shapes limits h = keeps m f b shapes limits h black_top_hat (λ e g. refl) (λ e g p. minus_picture (closing e g) g (closing_picture e g))
flat_limits m (flat.Rank f b k) shapes limits h = keeps m f b shapes limits h (λ e. rank e k) (λ e g. refl) (λ e g p. rank_picture e k g p)
flat_limits m (flat.Threshold f k) shapes limits h =
    let a = wanted_alone m f shapes h in
    let image = a.limits limits in
    let P : List (Option Value) → Type 0 = λ l. WithinLimits (result_of (op.Flat (flat.Threshold f k)) l) in
    subst P (sym a.values) (IsImage-of_size a.image (threshold k a.image) (threshold_picture k a.image) refl refl refl image)
flat_limits m (flat.HitMiss f hit miss) shapes limits h =
    let a = wanted_three m f hit miss shapes h in
    let image = a.limits limits in
    let g = hit_or_miss a.first.offsets a.second.offsets a.image in
    let P : List (Option Value) → Type 0 = λ l. WithinLimits (result_of (op.Flat (flat.HitMiss f hit miss)) l) in
    subst P (sym a.values) (IsImage-of_shape a.image g refl (minus_picture (erosion a.first.offsets a.image) (dilation a.second.offsets a.image) (erosion_picture a.first.offsets a.image)) image)

-- the depth of a skeleton is within its limits
depth_fits : (levels : ℕ) → param_case 1 TURN_LIMIT levels ≡ None → FitsKind Grey (levels + 1)
depth_fits levels h =
    let parts = and_parts (leb 1 levels) (leb levels 254) (when_not (leb 1 levels && leb levels 254) code.Param h) in
    let low = leb-true 1 levels parts.0 in
    let high = leb-true levels 254 parts.1 in
    (omega arith, omega arith)

gran_limits : (m : Machine) (o : GranOp) → ValuesHaveShapes m → ValuesWithinLimits m → first_of (map (wanted_case m.table) (inputs_wanted (op.Gran o))) ≡ None
    → first_of (op_cases m.table m.payloads (op.Gran o)) ≡ None → WithinLimits (result_of (op.Gran o) (input_values m (inputs_wanted (op.Gran o))))
gran_limits m (gran.Skeleton f b levels) shapes limits h r =
    let a = wanted_both m f b shapes h in
    let image = a.limits limits in
    let x = first_none (binary_case m.table f) (origin_case m.table m.payloads b ∷ param_case 1 TURN_LIMIT levels ∷ []) r in
    let y = first_none (origin_case m.table m.payloads b) (param_case 1 TURN_LIMIT levels ∷ []) x.1 in
    let z = first_none (param_case 1 TURN_LIMIT levels) [] y.1 in
    drawn_limits m f b a (λ e. skeleton e levels)
    (IsImage-of_size a.image (skeleton a.element.offsets levels a.image) (skeleton_picture a.element.offsets levels a.image) (depth_fits levels z.0) refl refl image)
gran_limits m (gran.Restore f b levels) shapes limits h r =
    let a = wanted_both m f b shapes h in
    drawn_limits m f b a (λ e. restoration e levels) (IsImage-restoration a.element.offsets levels a.image (a.limits limits))
gran_limits m (gran.Spectrum f b levels) shapes limits h r =
    let a = wanted_both m f b shapes h in
    let P : List (Option Value) → Type 0 = λ l. WithinLimits (result_of (op.Gran (gran.Spectrum f b levels)) l) in
    subst P (sym a.values) tt

-- the value of an accepted command is within its limits
pub result_limits : (m : Machine) (o : Op) → ValuesHaveShapes m → ValuesWithinLimits m → first_of (map (wanted_case m.table) (inputs_wanted o)) ≡ None
    → first_of (op_cases m.table m.payloads o) ≡ None → WithinLimits (result_of o (input_values m (inputs_wanted o)))
result_limits m (op.Flat o) shapes limits h r = flat_limits m o shapes limits h
result_limits m (op.Gran o) shapes limits h r = gran_limits m o shapes limits h r
