-- Openings by reconstruction.
use Rattle.std.proofs.Common.{◌≡◌, ℕ, zero, suc, ◌+◌, ◌*◌, ◌<◌, ◌⊎◌, List, length, refl, ap, sym, subst, arith, ◌∙◌, inl, inr}
use Rattle.mw_model.specs.declared.offsets.Offset.{Offset}
use Rattle.mw_model.specs.Pictures.{Picture, sample, IsPicture}
use Rattle.mw_model.specs.Flat.{under, least, erosion, dilation, reflected}
use Rattle.mw_model.specs.Iterates.{times}
use Rattle.mw_model.specs.Laws.{Below, SameShape, HoldsOrigin}
use Rattle.std.proofs.Math.Nat.{zero-add, suc-add}
use Rattle.mw_model.proofs.SkeletonLaws.{erosion_falls}
use Rattle.mw_model.proofs.Covers.{reflected-IsTurned, turned_back}
use Rattle.mw_model.proofs.ImagePlaces.{sample_bounded, same_picture, shape_sym, shape_trans, below_itself, below_trans, length-rows}
use Rattle.mw_model.proofs.ImageOrder.{IsBounded, sample-dilation, bounded_erosion, erosion_rises, below_erosion}
use Rattle.mw_model.proofs.Iterated.{times_turn, eroded_shape, dilated_shape, bounded_dilated, opened, opened_shape, opened_below}
use Rattle.mw_geodesic.specs.Neighbours.{ElementCovers, IsSymmetric}
use Rattle.mw_geodesic.specs.Geodesics.{reconstruction}
use Rattle.mw_geodesic.specs.Reconstructions.{opening_by_reconstruction}
use Rattle.mw_geodesic.proofs.Covered.{covers_to, covers_from}
use Rattle.mw_geodesic.proofs.Geodesic.{sample-meet, greatest_cut, reconstruction_closed}
use Rattle.mw_geodesic.proofs.Reconstructed.{rebuilt_shape, rebuilt_size, rebuilt_within, rebuilt_above, rebuilt_rises, rebuilt_within_itself}

-- n erosions
abbrev pub eroded : List Offset → ℕ → Picture → Picture
eroded b n f = times n (erosion b) f

pub eroded_rises : (b : List Offset) (n : ℕ) (f g : Picture) → SameShape f g → Below f g → Below (eroded b n f) (eroded b n g)
eroded_rises b zero f g shape below = below
eroded_rises b (suc n) f g shape below =
    erosion_rises (eroded b n f) (eroded b n g) b
    (shape_trans (eroded_shape b n f) (shape_trans shape (shape_sym (eroded_shape b n g))))
    (eroded_rises b n f g shape below)

bounded_eroded : (b : List Offset) (n : ℕ) (f : Picture) → IsBounded f → IsBounded (eroded b n f)
bounded_eroded b zero f bounded = bounded
bounded_eroded b (suc n) f bounded = bounded_erosion b (eroded b n f)

eroded_size : (b : List Offset) (n : ℕ) (f : Picture) → length f.samples ≡ f.height * f.width → length (eroded b n f).samples ≡ (eroded b n f).height * (eroded b n f).width
eroded_size b zero f size = size
eroded_size b (suc n) f size =
    let g = eroded b n f in
    length-rows (λ x y. least g.maxval (under g b x y)) g.width 0 g.height

-- Dilated n times by the turned element, and eroded as often, an image is no lower.
closed_above : (b : List Offset) (n : ℕ) (g : Picture) → IsBounded g → Below g (eroded b n (times n (dilation (reflected b)) g))
closed_above b zero g bounded = below_itself g
closed_above b (suc n) g bounded =
    let y = times n (dilation (reflected b)) g in
    let y_shape = dilated_shape (reflected b) n g in
    let d = dilation (reflected b) y in
    let once = below_erosion d y b (reflected b) (reflected-IsTurned b) (record { kind = refl; width = refl; height = refl; maxval = refl }) (bounded_dilated (reflected b) n g bounded) (below_itself d) in
    let more = eroded_rises b n y (erosion b d) (record { kind = refl; width = refl; height = refl; maxval = refl }) once in
    let whole : Below (eroded b n y) (eroded b (suc n) d) = subst (λ (t : Picture). Below (eroded b n y) t) (times_turn (erosion b) n d) more in
    below_trans g (eroded b n y) (eroded b (suc n) d) (shape_trans (shape_sym y_shape) (shape_sym (eroded_shape b n y))) (closed_above b n g bounded) whole

pub rises : (around b : List Offset) (n : ℕ) (f g : Picture) → SameShape f g → Below f g → Below (opening_by_reconstruction around b n f) (opening_by_reconstruction around b n g)
rises around b n f g shape below =
    let f_shape = eroded_shape b n f in
    let g_shape = eroded_shape b n g in
    rebuilt_rises around f g (eroded b n f) (eroded b n g) (shape_sym f_shape) (shape_trans f_shape (shape_trans shape (shape_sym g_shape))) below (eroded_rises b n f g shape below)

-- Where the opening by the element is below it, an opening by reconstruction has the same erosions as its image.
same_erosions : (around b : List Offset) (n : ℕ) (f : Picture) → IsPicture f → Below (opened b n f) (opening_by_reconstruction around b n f)
    → eroded b n (opening_by_reconstruction around b n f) ≡ eroded b n f
same_erosions around b n f picture low =
    let r = opening_by_reconstruction around b n f in
    let r_shape = shape_trans (rebuilt_shape around f (eroded b n f)) (eroded_shape b n f) in
    let down = eroded_rises b n r f r_shape (rebuilt_within around f (eroded b n f)) in
    let up = eroded_rises b n (opened b n f) r (shape_trans (opened_shape b n f) (shape_sym r_shape)) low in
    let unit = closed_above b n (eroded b n f) (bounded_eroded b n f (sample_bounded f picture)) in
    let shape = shape_trans (eroded_shape b n r) (shape_trans r_shape (shape_sym (eroded_shape b n f))) in
    let o_shape = shape_trans (eroded_shape b n (opened b n f)) (opened_shape b n f) in
    let f_shape = eroded_shape b n f in
    same_picture (eroded b n r) (eroded b n f) shape (eroded_size b n r (rebuilt_size around f (eroded b n f))) (eroded_size b n f picture.size)
    (λ x y p q.
    let p' : x < (eroded b n f).width = omega (arith, shape.width) in
    let q' : y < (eroded b n f).height = omega (arith, shape.height) in
    let a = down x y p q in
    let c = unit x y p' q' in
    let d = up x y (omega (arith, o_shape.width, f_shape.width)) (omega (arith, o_shape.height, f_shape.height)) in
    omega arith)

-- Then it is idempotent.
pub again : (around b : List Offset) (n : ℕ) (f : Picture) → IsPicture f → Below (opened b n f) (opening_by_reconstruction around b n f)
    → opening_by_reconstruction around b n (opening_by_reconstruction around b n f) ≡ opening_by_reconstruction around b n f
again around b n f picture low =
    let r = opening_by_reconstruction around b n f in
    ap (reconstruction around r) (same_erosions around b n f picture low) ∙ rebuilt_within_itself around f (eroded b n f)

-- ---- an element that holds its origin and otherwise covers neighbours alone

-- each place that it covers is covered by the element of connection, or is the place itself
abbrev pub IsAmong : List Offset → List Offset → Type 0
IsAmong around b = (x y u v : ℕ) → ElementCovers b x y u v → ElementCovers around x y u v ⊎ ((x ≡ u) × (y ≡ v))

eroded_below : (b : List Offset) (n : ℕ) (f : Picture) → HoldsOrigin b → Below (eroded b n f) f
eroded_below b zero f holds = below_itself f
eroded_below b (suc n) f holds =
    let e = eroded b n f in
    below_trans (erosion b e) e f (record { kind = refl; width = refl; height = refl; maxval = refl }) (erosion_falls b e holds) (eroded_below b n f holds)

-- so many erosions are the first k of them, and then j
split : (b : List Offset) (j k : ℕ) (f : Picture) → eroded b (j + k) f ≡ eroded b j (eroded b k f)
split b zero k f = ap (λ (i : ℕ). eroded b i f) (zero-add k)
split b (suc j) k f = ap (λ (i : ℕ). eroded b i f) (suc-add j k) ∙ ap (erosion b) (split b j k f)

-- dilated back no more often than it was eroded, an image is not above itself
dilated_below : (b : List Offset) (j k : ℕ) (f : Picture) → HoldsOrigin b → Below (times j (dilation (reflected b)) (eroded b (j + k) f)) f
dilated_below b j k f holds =
    let e = eroded b k f in
    subst (λ (t : Picture). Below (times j (dilation (reflected b)) t) f) (sym (split b j k f))
    (below_trans (opened b j e) e f (opened_shape b j e) (opened_below b j e) (eroded_below b k f holds))

-- so what is dilated back is among what is reconstructed
dilated_rebuilt : (around b : List Offset) (j k : ℕ) (f : Picture) → IsSymmetric around → HoldsOrigin b → IsAmong around b
    → Below (times j (dilation (reflected b)) (eroded b (j + k) f)) (reconstruction around f (eroded b (j + k) f))
dilated_rebuilt around b zero k f turns holds among x y p q =
    let n = zero + k in
    let m = eroded b n f in
    let above = rebuilt_above around f m x y p q in
    let is = sample-meet m f x y p q in
    let low = eroded_below b n f holds x y p q in
    omega arith
dilated_rebuilt around b (suc j) k f turns holds among x y p q =
    let n = suc j + k in
    let next : j + suc k ≡ suc j + k = omega arith in
    let m = eroded b n f in
    let d = times j (dilation (reflected b)) m in
    let r = reconstruction around f m in
    let m_shape = eroded_shape b n f in
    let d_shape = dilated_shape (reflected b) j m in
    let r_shape = rebuilt_shape around f m in
    let before : Below d r = subst (λ (i : ℕ). Below (times j (dilation (reflected b)) (eroded b i f)) (reconstruction around f (eroded b i f))) next (dilated_rebuilt around b j (suc k) f turns holds among) in
    let whole = dilated_below b (suc j) k f holds x y p q in
    let here = sample-dilation (reflected b) d x y p q in
    let wide = d_shape.width in
    let high = d_shape.height in
    let step = greatest_cut d (reflected b) x y (sample f x y) (sample r x y) (λ u v p' q' covers.
    let there = before u v p' q' in
    elim (among u v x y (covers_from b u v x y (turned_back b x y u v (covers_to (reflected b) x y u v covers)))) [
      | inr same ↦ rw (← same.0, ← same.1) (omega arith)
      | inl near ↦
          let closed = (reconstruction_closed around f m).closed x y u v (omega (arith, r_shape.width)) (omega (arith, r_shape.height)) (omega (arith, r_shape.width)) (omega (arith, r_shape.height)) (turns u v x y near) in
          omega arith
    ]) in
    omega arith

pub again_by_neighbours : (around b : List Offset) (n : ℕ) (f : Picture) → IsSymmetric around → HoldsOrigin b → IsAmong around b → IsPicture f
    → opening_by_reconstruction around b n (opening_by_reconstruction around b n f) ≡ opening_by_reconstruction around b n f
again_by_neighbours around b n f turns holds among picture =
    let whole : n + 0 ≡ n = omega arith in
    again around b n f picture
    (subst (λ (i : ℕ). Below (times n (dilation (reflected b)) (eroded b i f)) (reconstruction around f (eroded b i f))) whole (dilated_rebuilt around b n 0 f turns holds among))
