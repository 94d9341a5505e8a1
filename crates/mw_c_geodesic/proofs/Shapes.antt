-- How many samples is made, and up to which level.
use Rattle.std.proofs.Common.{◌≡◌, ℕ, ◌*◌, ◌≤◌, List, length, refl, ap, sym, subst, arith, ◌∙◌}
use Rattle.std.specs.Prelude.{◌==◌, ◌&&◌, nat_le, if◌then◌else◌}
use Rattle.mw_model.specs.declared.offsets.Offset.{Offset}
use Rattle.mw_model.specs.Flat.{minus}
use Rattle.mw_model.specs.Laws.{SameShape}
use Rattle.mw_model.specs.Pictures.{Picture, sample, FitsKind, IsImage, IsPicture}
use Rattle.mw_model.proofs.ImageLaws.{minus_picture}
use Rattle.mw_model.proofs.ImagePlaces.{drawn_same, length-rows, shape_trans}
use Rattle.mw_geodesic.specs.Components.{area, component, large_components}
use Rattle.mw_geodesic.specs.Geodesics.{reconstruction}
use Rattle.mw_geodesic.specs.Paths.{point}
use Rattle.mw_geodesic.specs.Reconstructions.{border_over}
use Rattle.mw_geodesic.proofs.Borders.{filled_picture, filled_shape, border_picture}
use Rattle.mw_c_arrays.specs.declared.arrays.Set.{Set}
use Rattle.mw_c_arrays.specs.declared.sources.ArrayImage.{ArrayImage}
use Rattle.mw_c_arrays.specs.declared.sources.ArrayImage.TheVariants as source
use Rattle.mw_c_arrays.specs.Arrays.{set_picture}
use Rattle.mw_c_arrays.specs.Sources.{IsArrayImage, array_sample_count, picture_in}
use Rattle.mw_c_arrays.proofs.SourceImages.{source_image, source_samples}
use Rattle.mw_c_calls.specs.Sources.{LevelsStandIn}
use Rattle.mw_c_geodesic.specs.declared.changing.Change.{Change}
use Rattle.mw_c_geodesic.specs.declared.changing.Change.TheVariants as change
use Rattle.mw_c_geodesic.specs.Alike.{CoverAlike}
use Rattle.mw_c_geodesic.specs.Changes.{made_alone}
use Rattle.mw_c_geodesic.specs.Methods.{rebuilt_by}
use Rattle.mw_c_geodesic.proofs.CoveredAlike.{rebuilt_alike}
use Rattle.mw_c_geodesic.proofs.RebuiltImages.{eroded_alike, image_like, method_picture, method_shape}

-- levels up to the same maxval stand alike
pub source_levels : (f : ArrayImage) (maxval : ℕ) → IsArrayImage f → maxval ≡ (picture_in f).maxval → LevelsStandIn f maxval
source_levels (source.Grey8 f) maxval is same = subst (λ (n : ℕ). n ≤ 255) (sym same) is.byte
source_levels (source.Grey16 f) maxval is same = subst (λ (n : ℕ). 256 ≤ n) (sym same) is.high
source_levels (source.Pixels f) maxval is same = subst (λ (n : ℕ). n ≤ 255) (sym same) (omega arith)

-- an image of the same sides fills as much room
pub fills_room : (g : Picture) (f : ArrayImage) (room : ℕ) → IsPicture g → SameShape g (picture_in f) → IsArrayImage f → room ≡ array_sample_count f → length g.samples ≡ room
fills_room g f room made shape given is =
    let wide = ap (λ (n : ℕ). g.height * n) shape.width in
    let high = ap (λ (n : ℕ). n * (picture_in f).width) shape.height in
    made.size ∙ wide ∙ high ∙ sym (source_image f given).picture.size ∙ source_samples f ∙ sym is

-- ---- what is made of one image

pub changed_shape : (change : Change) (e : List Offset) (f : Picture) → IsPicture f → SameShape (made_alone change e f) f
changed_shape change.Filled e f is = filled_shape e f is
changed_shape change.Cleared e f is = record { kind = refl; width = refl; height = refl; maxval = refl }

pub changed_picture : (change : Change) (e : List Offset) (f : Picture) → IsPicture f → IsPicture (made_alone change e f)
changed_picture change.Filled e f is = filled_picture e f is
changed_picture change.Cleared e f is = minus_picture f (reconstruction e f (border_over 0 f)) is

pub changed_alike : (change : Change) (e e' : List Offset) (f : Picture) → CoverAlike e e' → IsPicture f → made_alone change e f ≡ made_alone change e' f
changed_alike change.Filled e e' f alike is =
    eroded_alike e e' f (border_over f.maxval f) alike (border_picture f.maxval f is (omega arith)) is (record { kind = refl; width = refl; height = refl; maxval = refl })
changed_alike change.Cleared e e' f alike is = ap (λ (t : Picture). minus f t) (rebuilt_alike e e' f (border_over 0 f) alike)

pub changed_fits : (change : Change) (e : List Offset) (f image made : Picture) → IsImage f → image ≡ f → made ≡ made_alone change e image → FitsKind made.kind made.maxval
changed_fits change e f image made is same made_is =
    let now : made ≡ made_alone change e f = made_is ∙ ap (made_alone change e) same in
    subst (λ (t : Picture). FitsKind t.kind t.maxval) (sym now) (image_like (made_alone change e f) f (changed_shape change e f is.picture) (changed_picture change e f is.picture) is).maxval

pub changed_fills : (change : Change) (e : List Offset) (f : Set) (made : Picture) (room : ℕ) → IsImage (set_picture f) → made ≡ made_alone change e (set_picture f) → room ≡ length f.pixels.now → length made.samples ≡ room
changed_fills change e f made room given is same =
    ap (λ (t : Picture). length t.samples) is
    ∙ fills_room (made_alone change e (set_picture f)) (source.Pixels f) room (changed_picture change e (set_picture f) given.picture) (changed_shape change e (set_picture f) given.picture) given same

pub changed_small : (change : Change) (e : List Offset) (f : Set) (made : Picture) → IsImage (set_picture f) → made ≡ made_alone change e (set_picture f) → made.maxval ≤ 255
changed_small change e f made given is =
    source_levels (source.Pixels f) made.maxval given (ap (λ (t : Picture). t.maxval) is ∙ (changed_shape change e (set_picture f) given.picture).maxval)

-- ---- reconstructions

pub method_fits : (method : ℕ) (e : List Offset) (f g mask marker made : Picture) → IsImage f → IsImage g → SameShape g f → mask ≡ f → marker ≡ g → made ≡ rebuilt_by method e mask marker → FitsKind made.kind made.maxval
method_fits method e f g mask marker made is_mask is_marker shape same same_marker made_is =
    let now : made ≡ rebuilt_by method e f g = made_is ∙ ap (λ (t : Picture). rebuilt_by method e t marker) same ∙ ap (λ (t : Picture). rebuilt_by method e f t) same_marker in
    let made_shape = method_shape method e f g is_marker.picture is_mask.picture shape in
    subst (λ (t : Picture). FitsKind t.kind t.maxval) (sym now)
    (subst (λ (m : ℕ). FitsKind (rebuilt_by method e f g).kind m) (sym made_shape.maxval) (subst (λ k. FitsKind k g.maxval) (sym made_shape.kind) is_marker.maxval))

pub method_fills : (method : ℕ) (e : List Offset) (mask marker : ArrayImage) (made : Picture) (room : ℕ) → IsArrayImage mask → IsArrayImage marker → SameShape (picture_in marker) (picture_in mask) → made ≡ rebuilt_by method e (picture_in mask) (picture_in marker)
    → room ≡ array_sample_count mask → length made.samples ≡ room
method_fills method e mask marker made room given given_marker shape is same =
    let f = source_image mask given in
    let g = source_image marker given_marker in
    let made_shape = shape_trans (method_shape method e (picture_in mask) (picture_in marker) g.picture f.picture shape) shape in
    ap (λ (t : Picture). length t.samples) is ∙ fills_room (rebuilt_by method e (picture_in mask) (picture_in marker)) mask room (method_picture method e (picture_in mask) (picture_in marker) g.picture f.picture shape) made_shape given same

pub method_levels : (method : ℕ) (e : List Offset) (mask marker : ArrayImage) (made : Picture) → IsArrayImage mask → IsArrayImage marker → SameShape (picture_in marker) (picture_in mask) → made ≡ rebuilt_by method e (picture_in mask) (picture_in marker)
    → LevelsStandIn mask made.maxval
method_levels method e mask marker made given given_marker shape is =
    let f = source_image mask given in
    let g = source_image marker given_marker in
    source_levels mask made.maxval given (ap (λ (t : Picture). t.maxval) is ∙ (method_shape method e (picture_in mask) (picture_in marker) g.picture f.picture shape).maxval ∙ shape.maxval)

-- ---- large components

pub large_alike : (a : ℕ) (e e' : List Offset) (f : Picture) → CoverAlike e e' → large_components e a f ≡ large_components e' a f
large_alike a e e' f alike =
    drawn_same f.kind f.width f.height f.maxval (λ x y. if sample f x y == 1 && nat_le a (area (component e f x y)) then 1 else 0) (λ x y. if sample f x y == 1 && nat_le a (area (component e' f x y)) then 1 else 0)
    (λ x y p q. ap (λ (t : Picture). if sample f x y == 1 && nat_le a (area t) then 1 else 0) (rebuilt_alike e e' f (point f x y) alike))

pub large_size : (a : ℕ) (e : List Offset) (f : Picture) → length (large_components e a f).samples ≡ f.height * f.width
large_size a e f = length-rows (λ x y. if sample f x y == 1 && nat_le a (area (component e f x y)) then 1 else 0) f.width 0 f.height
