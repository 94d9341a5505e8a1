-- Filled holes and cleared borders.
use Rattle.std.proofs.Common.{◌≡◌, ℕ, ◌+◌, ◌-◌, ◌*◌, ◌<◌, ◌≤◌, List, refl, ap, sym, subst, arith, ◌∙◌, inl, inr, true}
use Rattle.std.specs.Prelude.{◌||◌, ◌==◌, if◌then◌else◌}
use Rattle.std.proofs.lemmas.Bool.{cases_Bool}
use Rattle.mw_model.specs.declared.offsets.Offset.{Offset}
use Rattle.mw_model.specs.Pictures.{Picture, sample, IsPicture}
use Rattle.mw_model.specs.Flat.{complement}
use Rattle.mw_model.specs.Laws.{Below, SameShape}
use Rattle.mw_model.proofs.ImagePlaces.{sample-redrawn, sample_bounded, drawn_same, same_picture, length-rows}
use Rattle.mw_model.proofs.ImageLaws.{drawn_picture}
use Rattle.mw_model.proofs.ImageOrder.{IsBounded}
use Rattle.mw_geodesic.specs.Geodesics.{reconstruction, reconstruction_by_erosion}
use Rattle.mw_geodesic.specs.Reconstructions.{at_border, border_over, holes_filled, border_cleared}
use Rattle.mw_geodesic.proofs.Geodesic.{spread_least, sample-meet}
use Rattle.mw_geodesic.proofs.Complements.{sample-complement, complement_picture, complement_twice, eroded_above, eroded_below}
use Rattle.mw_geodesic.proofs.Duality.{dual}
use Rattle.mw_geodesic.proofs.Reconstructed.{rebuilt_shape, rebuilt_size, rebuilt_within, rebuilt_above, rebuilt_within_itself}

-- what stands at a place of it
pub sample-border_over : (value : ℕ) (f : Picture) (x y : ℕ) → x < f.width → y < f.height → sample (border_over value f) x y ≡ (if at_border f x y then sample f x y else value)
sample-border_over value f x y p q = sample-redrawn f (λ x y. if at_border f x y then sample f x y else value) x y p q

pub border_bounded : (value : ℕ) (f : Picture) → IsPicture f → value ≤ f.maxval → (x y : ℕ) → x < f.width → y < f.height → (if at_border f x y then sample f x y else value) ≤ f.maxval
border_bounded value f picture low x y p q = elim (cases_Bool (at_border f x y)) [
  | inl edge ↦ rw edge (sample_bounded f picture x y p q)
  | inr inner ↦ rw inner low
]

pub border_picture : (value : ℕ) (f : Picture) → IsPicture f → value ≤ f.maxval → IsPicture (border_over value f)
border_picture value f picture low =
    drawn_picture f.kind f.width f.height f.maxval (λ x y. if at_border f x y then sample f x y else value) (border_bounded value f picture low)

-- ---- borders cleared

-- what has no marker is reconstructed as nothing
nothing_from_nothing : (e : List Offset) (mask marker : Picture) → ((x y : ℕ) → x < marker.width → y < marker.height → sample marker x y ≡ 0)
    → (x y : ℕ) → x < (reconstruction e mask marker).width → y < (reconstruction e mask marker).height → sample (reconstruction e mask marker) x y ≡ 0
nothing_from_nothing e mask marker none x y p q =
    let shape = rebuilt_shape e mask marker in
    let low = spread_least e mask marker marker (marker.height * marker.width) (record { kind = refl; width = refl; height = refl; maxval = refl })
    (λ x y p q. omega (arith, sample-meet marker mask x y p q))
    (record { closed = λ x y u v p q p' q' covers. omega (arith, none u v p' q') })
    x y p q in
    let is = none x y (omega (arith, shape.width)) (omega (arith, shape.height)) in
    omega arith

-- at the border the reconstruction is the image
border_kept : (e : List Offset) (f : Picture) (x y : ℕ) → x < f.width → y < f.height → at_border f x y ≡ true → sample (reconstruction e f (border_over 0 f)) x y ≡ sample f x y
border_kept e f x y p q edge =
    let m = border_over 0 f in
    let shape = rebuilt_shape e f m in
    let up = rebuilt_above e f m x y p q in
    let down = rebuilt_within e f m x y (omega (arith, shape.width)) (omega (arith, shape.height)) in
    let is = sample-meet m f x y p q in
    let here : sample m x y ≡ sample f x y = sample-border_over 0 f x y p q ∙ rw edge refl in
    omega arith

sample-cleared : (e : List Offset) (f : Picture) (x y : ℕ) → x < f.width → y < f.height → sample (border_cleared e f) x y ≡ sample f x y - sample (reconstruction e f (border_over 0 f)) x y
sample-cleared e f x y p q = sample-redrawn f (λ x y. sample f x y - sample (reconstruction e f (border_over 0 f)) x y) x y p q

pub cleared_below : (e : List Offset) (f : Picture) → Below (border_cleared e f) f
cleared_below e f x y p q = omega (arith, sample-cleared e f x y p q)

pub cleared_border : (e : List Offset) (f : Picture) (x y : ℕ) → x < f.width → y < f.height → at_border f x y ≡ true → sample (border_cleared e f) x y ≡ 0
cleared_border e f x y p q edge = omega (arith, sample-cleared e f x y p q, border_kept e f x y p q edge)

pub cleared_again : (e : List Offset) (f : Picture) → border_cleared e (border_cleared e f) ≡ border_cleared e f
cleared_again e f =
    let g = border_cleared e f in
    let m = border_over 0 g in
    let m_none : (x y : ℕ) → x < m.width → y < m.height → sample m x y ≡ 0 =
    λ x y p q.
    let is : sample m x y ≡ (if at_border f x y then sample g x y else 0) = sample-border_over 0 g x y p q in
    elim (cases_Bool (at_border f x y)) [
      | inl edge ↦ is ∙ rw edge (cleared_border e f x y p q edge)
      | inr inner ↦ is ∙ rw inner refl
    ] in
    let shape = rebuilt_shape e g m in
    drawn_same f.kind f.width f.height f.maxval (λ x y. sample g x y - sample (reconstruction e g m) x y) (λ x y. sample f x y - sample (reconstruction e f (border_over 0 f)) x y)
    (λ x y p q.
    let none = nothing_from_nothing e g m m_none x y (omega (arith, shape.width)) (omega (arith, shape.height)) in
    let is = sample-cleared e f x y p q in
    omega arith)

-- ---- holes filled

same_border : (f g : Picture) (x y : ℕ) → f.width ≡ g.width → f.height ≡ g.height → at_border f x y ≡ at_border g x y
same_border f g x y wide high =
    ap (λ (w : ℕ). x == 0 || y == 0 || x + 1 == w || y + 1 == f.height) wide ∙ ap (λ (h : ℕ). x == 0 || y == 0 || x + 1 == g.width || y + 1 == h) high

marker_picture : (f : Picture) → IsPicture f → IsPicture (border_over f.maxval f)
marker_picture f picture = border_picture f.maxval f picture (omega arith)

marker_shape : (f : Picture) → SameShape f (border_over f.maxval f)
marker_shape f = record { kind = refl; width = refl; height = refl; maxval = refl }

filled_is : (e : List Offset) (f : Picture) → IsPicture f → holes_filled e f ≡ complement (reconstruction e (complement f) (complement (border_over f.maxval f)))
filled_is e f picture = dual e f (border_over f.maxval f) (marker_picture f picture) picture (marker_shape f)

pub filled_shape : (e : List Offset) (f : Picture) → IsPicture f → SameShape (holes_filled e f) f
filled_shape e f picture =
    let r_shape = rebuilt_shape e (complement f) (complement (border_over f.maxval f)) in
    subst (λ (t : Picture). SameShape t f) (sym (filled_is e f picture)) (record { kind = r_shape.kind; width = r_shape.width; height = r_shape.height; maxval = r_shape.maxval })

pub filled_picture : (e : List Offset) (f : Picture) → IsPicture f → IsPicture (holes_filled e f)
filled_picture e f picture =
    subst (λ (t : Picture). IsPicture t) (sym (filled_is e f picture)) (complement_picture (reconstruction e (complement f) (complement (border_over f.maxval f))))

pub filled_above : (e : List Offset) (f : Picture) → IsPicture f → Below f (holes_filled e f)
filled_above e f picture = eroded_above e f (border_over f.maxval f) (marker_picture f picture) picture (marker_shape f)

pub filled_border : (e : List Offset) (f : Picture) → IsPicture f → (x y : ℕ) → x < f.width → y < f.height → at_border f x y ≡ true → sample (holes_filled e f) x y ≡ sample f x y
filled_border e f picture x y p q edge =
    let m = border_over f.maxval f in
    let here : sample m x y ≡ sample f x y = sample-border_over f.maxval f x y p q ∙ rw edge refl in
    let low = filled_above e f picture x y p q in
    let high = eroded_below e f m (marker_picture f picture) picture (marker_shape f) x y p q in
    omega arith

-- the filled image has the marker of the image
same_marker : (e : List Offset) (f : Picture) → IsPicture f → border_over (holes_filled e f).maxval (holes_filled e f) ≡ border_over f.maxval f
same_marker e f picture =
    let g = holes_filled e f in
    let shape = filled_shape e f picture in
    same_picture (border_over g.maxval g) (border_over f.maxval f) (record { kind = shape.kind; width = shape.width; height = shape.height; maxval = shape.maxval })
    (length-rows (λ x y. if at_border g x y then sample g x y else g.maxval) g.width 0 g.height) (length-rows (λ x y. if at_border f x y then sample f x y else f.maxval) f.width 0 f.height)
    (λ x y p q.
    let p' : x < f.width = omega (arith, shape.width) in
    let q' : y < f.height = omega (arith, shape.height) in
    let at = same_border g f x y shape.width shape.height in
    let is = sample-border_over g.maxval g x y p q in
    let is' = sample-border_over f.maxval f x y p' q' in
    elim (cases_Bool (at_border f x y)) [
      | inl edge ↦
          let left : sample (border_over g.maxval g) x y ≡ sample f x y = is ∙ rw (at ∙ edge) (filled_border e f picture x y p' q' edge) in
          let right : sample (border_over f.maxval f) x y ≡ sample f x y = is' ∙ rw edge refl in
          left ∙ sym right
      | inr inner ↦
          let left : sample (border_over g.maxval g) x y ≡ f.maxval = is ∙ rw (at ∙ inner) shape.maxval in
          let right : sample (border_over f.maxval f) x y ≡ f.maxval = is' ∙ rw inner refl in
          left ∙ sym right
    ])

-- Where holes are filled there are none.
pub filled_again : (e : List Offset) (f : Picture) → IsPicture f → holes_filled e (holes_filled e f) ≡ holes_filled e f
filled_again e f picture =
    let g = holes_filled e f in
    let m = border_over f.maxval f in
    let r = reconstruction e (complement f) (complement m) in
    let r_shape = rebuilt_shape e (complement f) (complement m) in
    let g_is = filled_is e f picture in
    let shape = filled_shape e f picture in
    let bounded : IsBounded r = λ x y p q.
    let low = rebuilt_within e (complement f) (complement m) x y p q in
    let is = sample-complement f x y (omega (arith, r_shape.width)) (omega (arith, r_shape.height)) in
    omega (arith, r_shape.maxval) in
    let back : complement g ≡ r = ap complement g_is ∙ complement_twice r (rebuilt_size e (complement f) (complement m)) bounded in
    ap (reconstruction_by_erosion e g) (same_marker e f picture)
    ∙ dual e g m (marker_picture f picture) (filled_picture e f picture) (record { kind = shape.kind; width = shape.width; height = shape.height; maxval = shape.maxval })
    ∙ ap (λ (t : Picture). complement (reconstruction e t (complement m))) back
    ∙ ap complement (rebuilt_within_itself e (complement f) (complement m))
    ∙ sym g_is
