-- What is dual by the complement.
use Rattle.std.proofs.Common.{◌≡◌, ℕ, zero, suc, ◌-◌, ◌*◌, ◌<◌, ◌≤◌, List, length, max, refl, ap, arith, ◌∙◌}
use Rattle.mw_model.specs.declared.offsets.Offset.{Offset}
use Rattle.mw_model.specs.Pictures.{Picture, sample, IsPicture}
use Rattle.mw_model.specs.Flat.{under, least, erosion, dilation, complement}
use Rattle.mw_model.specs.Iterates.{times}
use Rattle.mw_model.specs.Laws.{Below, SameShape}
use Rattle.mw_model.proofs.ImagePlaces.{sample-redrawn, sample_bounded, drawn_same, redrawn_itself, shape_sym}
use Rattle.mw_model.proofs.ImageOrder.{IsBounded, sample-dilation}
use Rattle.mw_model.proofs.ImageLaws.{drawn_picture, dilation_picture}
use Rattle.mw_model.proofs.Iterated.{dilated_shape, bounded_dilated}
use Rattle.mw_geodesic.specs.Geodesics.{reconstruction, reconstruction_by_erosion}
use Rattle.mw_geodesic.specs.Reconstructions.{opening_by_reconstruction, closing_by_reconstruction}
use Rattle.mw_geodesic.proofs.Duality.{dual, turned_over}
use Rattle.mw_geodesic.proofs.Geodesic.{sample-meet}
use Rattle.mw_geodesic.proofs.Reconstructed.{rebuilt_shape, rebuilt_within, rebuilt_above}

pub sample-complement : (f : Picture) (x y : ℕ) → x < f.width → y < f.height → sample (complement f) x y ≡ f.maxval - sample f x y
sample-complement f x y p q = sample-redrawn f (λ x y. f.maxval - sample f x y) x y p q

pub complement_picture : (f : Picture) → IsPicture (complement f)
complement_picture f = drawn_picture f.kind f.width f.height f.maxval (λ x y. f.maxval - sample f x y) (λ x y p q. omega arith)

pub complements_shape : (f g : Picture) → SameShape f g → SameShape (complement f) (complement g)
complements_shape f g shape = record { kind = shape.kind; width = shape.width; height = shape.height; maxval = shape.maxval }

pub complement_twice : (f : Picture) → length f.samples ≡ f.height * f.width → IsBounded f → complement (complement f) ≡ f
complement_twice f size bounded =
    drawn_same f.kind f.width f.height f.maxval (λ x y. f.maxval - sample (complement f) x y) (sample f)
    (λ x y p q. omega (arith, sample-complement f x y p q, bounded x y p q))
    ∙ redrawn_itself f size

-- An erosion of the complement is the complement of the dilation.
eroded_complement : (e : List Offset) (f : Picture) → IsBounded f → complement (dilation e f) ≡ erosion e (complement f)
eroded_complement e f bounded =
    drawn_same f.kind f.width f.height f.maxval (λ x y. f.maxval - sample (dilation e f) x y) (λ x y. least f.maxval (under (complement f) e x y))
    (λ x y p q.
    let pair = turned_over e (complement f) f f.maxval x y refl refl (λ u v a b. omega (arith, sample-complement f u v a b, bounded u v a b)) in
    omega (arith, sample-dilation e f x y p q))

eroded_complements : (e : List Offset) (n : ℕ) (f : Picture) → IsBounded f → complement (times n (dilation e) f) ≡ times n (erosion e) (complement f)
eroded_complements e zero f bounded = refl
eroded_complements e (suc n) f bounded =
    eroded_complement e (times n (dilation e) f) (bounded_dilated e n f bounded) ∙ ap (erosion e) (eroded_complements e n f bounded)

dilated_picture : (e : List Offset) (n : ℕ) (f : Picture) → IsPicture f → IsPicture (times n (dilation e) f)
dilated_picture e zero f picture = picture
dilated_picture e (suc n) f picture = dilation_picture e (times n (dilation e) f) (dilated_picture e n f picture)

-- A closing by reconstruction is the complement of the opening of the complement.
pub closing_dual : (around e : List Offset) (n : ℕ) (f : Picture) → IsPicture f → closing_by_reconstruction around e n f ≡ complement (opening_by_reconstruction around e n (complement f))
closing_dual around e n f picture =
    dual around f (times n (dilation e) f) (dilated_picture e n f picture) picture (shape_sym (dilated_shape e n f))
    ∙ ap (λ (t : Picture). complement (reconstruction around (complement f) t)) (eroded_complements e n f (sample_bounded f picture))

-- ---- between the mask and the marker

pub eroded_above : (e : List Offset) (mask marker : Picture) → IsPicture marker → IsPicture mask → SameShape mask marker → Below mask (reconstruction_by_erosion e mask marker)
eroded_above e mask marker is_marker is_mask shape x y p q =
    let r = reconstruction e (complement mask) (complement marker) in
    let r_shape = rebuilt_shape e (complement mask) (complement marker) in
    let is = ap (λ (t : Picture). sample t x y) (dual e mask marker is_marker is_mask shape) in
    let p' : x < r.width = omega (arith, r_shape.width, shape.width) in
    let q' : y < r.height = omega (arith, r_shape.height, shape.height) in
    let here = sample-complement r x y p' q' in
    let low = rebuilt_within e (complement mask) (complement marker) x y p' q' in
    let cut = sample-complement mask x y p q in
    let top = sample_bounded mask is_mask x y p q in
    omega (arith, r_shape.maxval, shape.maxval)

pub eroded_below : (e : List Offset) (mask marker : Picture) → IsPicture marker → IsPicture mask → SameShape mask marker → (x y : ℕ) → x < marker.width → y < marker.height
    → sample (reconstruction_by_erosion e mask marker) x y ≤ max (sample marker x y) (sample mask x y)
eroded_below e mask marker is_marker is_mask shape x y p q =
    let r = reconstruction e (complement mask) (complement marker) in
    let r_shape = rebuilt_shape e (complement mask) (complement marker) in
    let is = ap (λ (t : Picture). sample t x y) (dual e mask marker is_marker is_mask shape) in
    let here = sample-complement r x y (omega (arith, r_shape.width)) (omega (arith, r_shape.height)) in
    let high = rebuilt_above e (complement mask) (complement marker) x y p q in
    let meets = sample-meet (complement marker) (complement mask) x y p q in
    let cut = sample-complement mask x y (omega (arith, shape.width)) (omega (arith, shape.height)) in
    let cut' = sample-complement marker x y p q in
    let top = sample_bounded mask is_mask x y (omega (arith, shape.width)) (omega (arith, shape.height)) in
    let top' = sample_bounded marker is_marker x y p q in
    omega (arith, r_shape.maxval, shape.maxval)
