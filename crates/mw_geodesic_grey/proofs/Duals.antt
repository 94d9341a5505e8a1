-- What goes by erosion, as the complement of what goes by dilation of the complement.
use Rattle.std.proofs.Common.{◌≡◌, ℕ, ◌+◌, ◌-◌, ◌<◌, List, min, refl, ap, sym, arith, ◌∙◌, inl, inr}
use Rattle.std.specs.Prelude.{nat_le, if◌then◌else◌}
use Rattle.std.proofs.lemmas.Bool.{cases_Bool}
use Rattle.mw_model.specs.declared.shapes.Kind.TheVariants.{Bit}
use Rattle.mw_model.specs.declared.offsets.Offset.{Offset}
use Rattle.mw_model.specs.Pictures.{Picture, sample, IsPicture}
use Rattle.mw_model.specs.Flat.{complement, minus, threshold}
use Rattle.mw_model.specs.Laws.{SameShape}
use Rattle.mw_model.specs.Rasters.{Raster}
use Rattle.mw_model.proofs.ImagePlaces.{sample-redrawn, sample-drawn, drawn_same, same_picture, length-rows}
use Rattle.mw_model.proofs.ImageLaws.{drawn_picture}
use Rattle.mw_geodesic.specs.Geodesics.{reconstruction, reconstruction_by_erosion}
use Rattle.mw_geodesic.specs.Reconstructions.{at_border, border_cleared, border_over, holes_filled}
use Rattle.mw_geodesic.specs.Extrema.{lowered_by, raised_by, h_maxima, h_minima, regional_maxima, regional_minima}
use Rattle.mw_geodesic.proofs.Borders.{sample-border_over, border_picture}
use Rattle.mw_geodesic.proofs.Complements.{sample-complement}
use Rattle.mw_geodesic.proofs.Duality.{dual}
use Rattle.mw_geodesic.proofs.Reconstructed.{rebuilt_shape}
use Rattle.mw_geodesic_levels.specs.Pictures.{picture_by}

-- ---- what a reconstruction is like

pub rebuilt_width : (e : List Offset) (mask marker made : Picture) → made ≡ reconstruction e mask marker → made.width ≡ marker.width
rebuilt_width e mask marker made is = ap (λ (t : Picture). t.width) is ∙ (rebuilt_shape e mask marker).width

pub rebuilt_height : (e : List Offset) (mask marker made : Picture) → made ≡ reconstruction e mask marker → made.height ≡ marker.height
rebuilt_height e mask marker made is = ap (λ (t : Picture). t.height) is ∙ (rebuilt_shape e mask marker).height

pub cleared_by : (e : List Offset) (f touching made : Picture) → touching ≡ reconstruction e f (border_over 0 f) → made ≡ minus f touching → made ≡ border_cleared e f
cleared_by e f touching made touching_is made_is = made_is ∙ ap (minus f) touching_is

-- ---- step by step

pub eroded_by : (e : List Offset) (mask marker below within rebuilt made : Picture) → IsPicture marker → IsPicture mask → SameShape mask marker → below ≡ complement marker → within ≡ complement mask
    → rebuilt ≡ reconstruction e within below → made ≡ complement rebuilt → made ≡ reconstruction_by_erosion e mask marker
eroded_by e mask marker below within rebuilt made is_marker is_mask shape below_is within_is rebuilt_is made_is =
    made_is
    ∙ ap complement (rebuilt_is ∙ ap (λ (t : Picture). reconstruction e t below) within_is ∙ ap (reconstruction e (complement mask)) below_is)
    ∙ sym (dual e mask marker is_marker is_mask shape)

-- ---- holes

complement-border : (f : Picture) → complement (border_over f.maxval f) ≡ border_over 0 (complement f)
complement-border f =
    drawn_same f.kind f.width f.height f.maxval (λ x y. f.maxval - sample (border_over f.maxval f) x y) (λ x y. if at_border f x y then sample (complement f) x y else 0)
    (λ x y p q.
    let is = sample-border_over f.maxval f x y p q in
    let turned = sample-complement f x y p q in
    elim (cases_Bool (at_border f x y)) [
      | inl edge ↦
          let here : sample (border_over f.maxval f) x y ≡ sample f x y = is ∙ rw edge refl in
          let there : (if at_border f x y then sample (complement f) x y else 0) ≡ sample (complement f) x y = rw edge refl in
          ap (λ (t : ℕ). f.maxval - t) here ∙ sym turned ∙ sym there
      | inr inner ↦
          let here : sample (border_over f.maxval f) x y ≡ f.maxval = is ∙ rw inner refl in
          let there : (if at_border f x y then sample (complement f) x y else 0) ≡ 0 = rw inner refl in
          let nothing : f.maxval - f.maxval ≡ 0 = omega arith in
          ap (λ (t : ℕ). f.maxval - t) here ∙ nothing ∙ sym there
    ])

pub filled_by : (e : List Offset) (f below outside made : Picture) → IsPicture f → below ≡ complement f → outside ≡ reconstruction e below (border_over 0 below) → made ≡ complement outside → made ≡ holes_filled e f
filled_by e f below outside made picture below_is outside_is made_is =
    made_is
    ∙ ap complement (outside_is ∙ ap (λ (t : Picture). reconstruction e t (border_over 0 t)) below_is ∙ ap (reconstruction e (complement f)) (sym (complement-border f)))
    ∙ sym (dual e f (border_over f.maxval f) (border_picture f.maxval f picture (omega arith)) picture (record { kind = refl; width = refl; height = refl; maxval = refl }))

-- ---- extrema

raised_picture : (h : ℕ) (f : Picture) → IsPicture (raised_by h f)
raised_picture h f = drawn_picture f.kind f.width f.height f.maxval (λ x y. min (sample f x y + h) f.maxval) (λ x y p q. omega arith)

complement-raised : (h : ℕ) (f : Picture) → complement (raised_by h f) ≡ lowered_by h (complement f)
complement-raised h f =
    drawn_same f.kind f.width f.height f.maxval (λ x y. f.maxval - sample (raised_by h f) x y) (λ x y. sample (complement f) x y - h)
    (λ x y p q.
    let is = sample-redrawn f (λ x y. min (sample f x y + h) f.maxval) x y p q in
    let turned = sample-complement f x y p q in
    omega arith)

minima_are : (e : List Offset) (h : ℕ) (f : Picture) → IsPicture f → h_minima e h f ≡ complement (h_maxima e h (complement f))
minima_are e h f picture =
    dual e f (raised_by h f) (raised_picture h f) picture (record { kind = refl; width = refl; height = refl; maxval = refl })
    ∙ ap (λ (t : Picture). complement (reconstruction e (complement f) t)) (complement-raised h f)

pub minima_by : (e : List Offset) (h : ℕ) (f below cut made : Picture) → IsPicture f → below ≡ complement f → cut ≡ h_maxima e h below → made ≡ complement cut → made ≡ h_minima e h f
minima_by e h f below cut made picture below_is cut_is made_is =
    made_is ∙ ap complement (cut_is ∙ ap (h_maxima e h) below_is) ∙ sym (minima_are e h f picture)

same_threshold : (a b : Picture) → a.width ≡ b.width → a.height ≡ b.height → ((x y : ℕ) → x < a.width → y < a.height → sample a x y ≡ sample b x y) → threshold 1 a ≡ threshold 1 b
same_threshold a b wide high same =
    same_picture (threshold 1 a) (threshold 1 b) (record { kind = refl; width = wide; height = high; maxval = refl }) (length-rows (λ x y. if nat_le 1 (sample a x y) then 1 else 0) a.width 0 a.height)
    (length-rows (λ x y. if nat_le 1 (sample b x y) then 1 else 0) b.width 0 b.height)
    (λ x y p q.
    sample-drawn Bit a.width a.height 1 (λ x y. if nat_le 1 (sample a x y) then 1 else 0) x y p q
    ∙ ap (λ (t : ℕ). if nat_le 1 t then 1 else 0) (same x y p q)
    ∙ sym (sample-drawn Bit b.width b.height 1 (λ x y. if nat_le 1 (sample b x y) then 1 else 0) x y (omega arith) (omega arith)))

-- what the complement of g is over f, is what the complement of f is over g
minus-complements : (f g : Picture) → SameShape g f → threshold 1 (minus (complement g) f) ≡ threshold 1 (minus (complement f) g)
minus-complements f g shape =
    same_threshold (minus (complement g) f) (minus (complement f) g) shape.width shape.height (λ x y p q.
    let p' : x < f.width = omega (arith, shape.width) in
    let q' : y < f.height = omega (arith, shape.height) in
    let left = sample-redrawn (complement g) (λ x y. sample (complement g) x y - sample f x y) x y p q in
    let right = sample-redrawn (complement f) (λ x y. sample (complement f) x y - sample g x y) x y p' q' in
    let turned = sample-complement g x y p q in
    let turned' = sample-complement f x y p' q' in
    omega (arith, shape.maxval))

-- Minima are the maxima of the complement.
pub regional_minima_are : (e : List Offset) (f below : Picture) → IsPicture f → below ≡ complement f → regional_maxima e below ≡ regional_minima e f
regional_minima_are e f below picture below_is =
    let g = h_maxima e 1 (complement f) in
    let g_shape = rebuilt_shape e (complement f) (lowered_by 1 (complement f)) in
    ap (regional_maxima e) below_is
    ∙ sym (minus-complements f g (record { kind = g_shape.kind; width = g_shape.width; height = g_shape.height; maxval = g_shape.maxval }))
    ∙ sym (ap (λ (t : Picture). threshold 1 (minus t f)) (minima_are e 1 f picture))

-- ---- markers, from a copy of the image

-- what an operator makes of the copy, it makes of the image
pub same_marker : {A : Type 0} (operator : Picture → Picture) (level : A → ℕ) (maxval : ℕ) (p copied marker : Raster A) → picture_by level maxval marker ≡ operator (picture_by level maxval copied) → copied ≡ p
    → picture_by level maxval marker ≡ operator (picture_by level maxval p)
same_marker operator level maxval p copied marker marker_is copied_is = marker_is ∙ ap (λ (t : Raster _). operator (picture_by level maxval t)) copied_is
