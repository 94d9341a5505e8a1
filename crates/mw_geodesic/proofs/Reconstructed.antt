-- Laws of reconstruction: it rises with its marker and its mask, and done again it changes nothing.
use Rattle.std.proofs.Common.{◌≡◌, ℕ, ◌*◌, List, length, refl, sym, arith, ◌∙◌}
use Rattle.mw_model.specs.declared.offsets.Offset.{Offset}
use Rattle.mw_model.specs.Pictures.{Picture}
use Rattle.mw_model.specs.Laws.{Below, SameShape}
use Rattle.mw_model.proofs.ImagePlaces.{shape_sym, shape_trans}
use Rattle.mw_geodesic.specs.Geodesics.{meet, reconstruction}
use Rattle.mw_geodesic.proofs.Geodesic.{spread, spread_shape, spread_size, spread_above, spread_within, spread_least, sample-meet, reconstruction_closed, only_reconstruction}

pub rebuilt_shape : (e : List Offset) (mask marker : Picture) → SameShape (reconstruction e mask marker) marker
rebuilt_shape e mask marker = spread_shape e mask marker (marker.height * marker.width)

product : (a b c d : ℕ) → a ≡ c → b ≡ d → a * b ≡ c * d
product a b c d p q = cc

pub rebuilt_size : (e : List Offset) (mask marker : Picture) → length (reconstruction e mask marker).samples ≡ (reconstruction e mask marker).height * (reconstruction e mask marker).width
rebuilt_size e mask marker =
    let n = marker.height * marker.width in
    let shape = spread_shape e mask marker n in
    spread_size e mask marker n ∙ sym (product (spread e mask marker n).height (spread e mask marker n).width marker.height marker.width shape.height shape.width)

-- never above the mask
pub rebuilt_within : (e : List Offset) (mask marker : Picture) → Below (reconstruction e mask marker) mask
rebuilt_within e mask marker = spread_within e mask marker (marker.height * marker.width)

-- never below the marker, cut to the mask
pub rebuilt_above : (e : List Offset) (mask marker : Picture) → Below (meet marker mask) (reconstruction e mask marker)
rebuilt_above e mask marker = spread_above e mask marker (marker.height * marker.width)

-- Markers and masks that are below one another have reconstructions that are.
pub rebuilt_rises : (e : List Offset) (mask mask' marker marker' : Picture) → SameShape mask marker → SameShape marker marker' → Below mask mask' → Below marker marker'
    → Below (reconstruction e mask marker) (reconstruction e mask' marker')
rebuilt_rises e mask mask' marker marker' shape same masks markers =
    let h = reconstruction e mask' marker' in
    let h_shape = rebuilt_shape e mask' marker' in
    spread_least e mask marker h (marker.height * marker.width) (shape_trans h_shape (shape_sym same))
    (λ x y p q.
    let above = rebuilt_above e mask' marker' x y (omega (arith, same.width)) (omega (arith, same.height)) in
    let is = sample-meet marker mask x y p q in
    let is' = sample-meet marker' mask' x y (omega (arith, same.width)) (omega (arith, same.height)) in
    let low = masks x y (omega (arith, shape.width)) (omega (arith, shape.height)) in
    let low' = markers x y p q in
    omega arith)
    (record {
      closed = λ x y u v p q p' q' covers.
          let edge = (reconstruction_closed e mask' marker').closed x y u v p q p' q' covers in
          let low = masks x y (omega (arith, shape.width, same.width, h_shape.width)) (omega (arith, shape.height, same.height, h_shape.height)) in
          omega arith;
    })

-- From a reconstruction the same is reconstructed.
pub rebuilt_again : (e : List Offset) (mask marker : Picture) → reconstruction e mask (reconstruction e mask marker) ≡ reconstruction e mask marker
rebuilt_again e mask marker =
    let r = reconstruction e mask marker in
    sym (only_reconstruction e mask r r (record { kind = refl; width = refl; height = refl; maxval = refl }) (rebuilt_size e mask marker)
    (λ x y p q. omega (arith, sample-meet r mask x y p q))
    (reconstruction_closed e mask marker)
    (λ x y p q.
    let above = rebuilt_above e mask r x y p q in
    let is = sample-meet r mask x y p q in
    let within = rebuilt_within e mask marker x y p q in
    omega arith))

-- Within a reconstruction the same is reconstructed.
pub rebuilt_within_itself : (e : List Offset) (mask marker : Picture) → reconstruction e (reconstruction e mask marker) marker ≡ reconstruction e mask marker
rebuilt_within_itself e mask marker =
    let r = reconstruction e mask marker in
    let r_shape = rebuilt_shape e mask marker in
    let h = reconstruction e r marker in
    let h_shape = rebuilt_shape e r marker in
    sym (only_reconstruction e r marker r r_shape (rebuilt_size e mask marker)
    (λ x y p q. omega (arith, sample-meet marker r x y p q))
    (record { closed = λ x y u v p q p' q' covers. omega arith })
    (spread_least e mask marker h (marker.height * marker.width) h_shape
    (λ x y p q.
    let above = rebuilt_above e r marker x y p q in
    let is = sample-meet marker r x y p q in
    let first = rebuilt_above e mask marker x y p q in
    let is' = sample-meet marker mask x y p q in
    omega arith)
    (record {
      closed = λ x y u v p q p' q' covers.
          let wide = h_shape.width ∙ sym r_shape.width in
          let high = h_shape.height ∙ sym r_shape.height in
          let edge = (reconstruction_closed e r marker).closed x y u v p q p' q' covers in
          let first = (reconstruction_closed e mask marker).closed x y u v (omega (arith, wide)) (omega (arith, high)) (omega (arith, wide)) (omega (arith, high)) covers in
          let low = rebuilt_within e r marker u v p' q' in
          omega arith;
    })))
