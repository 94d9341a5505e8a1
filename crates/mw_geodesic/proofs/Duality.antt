-- Reconstruction by erosion is reconstruction by dilation of the complements.
use Rattle.std.proofs.Common.{◌≡◌, ℕ, zero, suc, ◌+◌, ◌-◌, ◌*◌, ◌<◌, List, length, min, max, refl, sym, arith, ◌∙◌}
use Rattle.mw_model.specs.declared.offsets.Offset.{Offset}
use Rattle.mw_model.specs.Pictures.{Picture, sample, IsPicture}
use Rattle.mw_model.specs.Flat.{under, least, greatest, erosion, complement}
use Rattle.mw_model.specs.Iterates.{times, union}
use Rattle.mw_model.specs.Laws.{SameShape}
use Rattle.mw_model.proofs.Covers.{least_at_most}
use Rattle.mw_model.proofs.ImagePlaces.{sample-redrawn, same_picture, redrawn_shape, shape_trans, length-rows, sample_bounded}
use Rattle.mw_model.proofs.ImageOrder.{sample-erosion}
use Rattle.mw_geodesic.specs.Geodesics.{meet, geodesic_erosion, reconstruction, reconstruction_by_erosion}
use Rattle.mw_geodesic.proofs.Covered.{least_below, below_least, below_greatest, greatest_below}
use Rattle.mw_geodesic.proofs.Geodesic.{spread, spread_shape, sample-meet, sample-step}

-- the marker, raised to the mask, eroded n times
abbrev sunk : List Offset → Picture → Picture → ℕ → Picture
sunk e mask marker n = times n (geodesic_erosion e mask) (union marker mask)

sunk_shape : (e : List Offset) (mask marker : Picture) (n : ℕ) → SameShape (sunk e mask marker n) marker
sunk_shape e mask marker zero = redrawn_shape marker _
sunk_shape e mask marker (suc n) = shape_trans (record { kind = refl; width = refl; height = refl; maxval = refl }) (sunk_shape e mask marker n)

product : (a b c d : ℕ) → a ≡ c → b ≡ d → a * b ≡ c * d
product a b c d p q = cc

sunk_size : (e : List Offset) (mask marker : Picture) (n : ℕ) → length (sunk e mask marker n).samples ≡ marker.height * marker.width
sunk_size e mask marker zero = length-rows (λ x y. max (sample marker x y) (sample mask x y)) marker.width 0 marker.height
sunk_size e mask marker (suc n) =
    let f = sunk e mask marker n in
    let shape = sunk_shape e mask marker n in
    let g = meet f (erosion e f) in
    length-rows (λ x y. max (sample g x y) (sample mask x y)) g.width 0 g.height ∙ product g.height g.width marker.height marker.width shape.height shape.width

sample-sunk : (e : List Offset) (mask f : Picture) (x y : ℕ) → x < f.width → y < f.height
    → sample (geodesic_erosion e mask f) x y ≡ max (min (sample f x y) (least f.maxval (under f e x y))) (sample mask x y)
sample-sunk e mask f x y p q =
    let g = meet f (erosion e f) in
    let first = sample-redrawn g (λ x y. max (sample g x y) (sample mask x y)) x y p q in
    let second = sample-meet f (erosion e f) x y p q in
    let third = sample-erosion e f x y p q in
    omega arith

-- what is least in one image is greatest in its complement
pub turned_over : (e : List Offset) (f g : Picture) (top x y : ℕ) → f.width ≡ g.width → f.height ≡ g.height
    → ((u v : ℕ) → u < f.width → v < f.height → sample f u v + sample g u v ≡ top) → least top (under f e x y) + greatest (under g e x y) ≡ top
turned_over e f g top x y wide high pairs =
    let low = greatest_below g e x y (top - least top (under f e x y)) (λ u v p q covers.
    let under_f = least_below f e top x y u v (omega arith) (omega arith) covers in
    let pair = pairs u v (omega arith) (omega arith) in
    omega arith) in
    let up = below_least f e top x y (top - greatest (under g e x y)) (omega arith) (λ u v p q covers.
    let over_g = below_greatest g e x y u v (omega arith) (omega arith) covers in
    let pair = pairs u v p q in
    omega arith) in
    let most = least_at_most top (under f e x y) in
    omega arith

pairs_at : (e : List Offset) (mask marker : Picture) (n x y : ℕ) → IsPicture marker → IsPicture mask → SameShape mask marker → x < marker.width → y < marker.height
    → sample (sunk e mask marker n) x y + sample (spread e (complement mask) (complement marker) n) x y ≡ marker.maxval
pairs_at e mask marker zero x y is_marker is_mask shape p q =
    let p' : x < mask.width = omega (arith, shape.width) in
    let q' : y < mask.height = omega (arith, shape.height) in
    let a = sample-redrawn marker (λ x y. max (sample marker x y) (sample mask x y)) x y p q in
    let b = sample-meet (complement marker) (complement mask) x y p q in
    let c = sample-redrawn marker (λ x y. marker.maxval - sample marker x y) x y p q in
    let d = sample-redrawn mask (λ x y. mask.maxval - sample mask x y) x y p' q' in
    let low = sample_bounded marker is_marker x y p q in
    let low' = sample_bounded mask is_mask x y p' q' in
    omega (arith, shape.maxval)
pairs_at e mask marker (suc n) x y is_marker is_mask shape p q =
    let f = sunk e mask marker n in
    let g = spread e (complement mask) (complement marker) n in
    let f_shape = sunk_shape e mask marker n in
    let g_shape = spread_shape e (complement mask) (complement marker) n in
    let p' : x < mask.width = omega (arith, shape.width) in
    let q' : y < mask.height = omega (arith, shape.height) in
    let a = sample-sunk e mask f x y (omega (arith, f_shape.width)) (omega (arith, f_shape.height)) in
    let b = sample-step e (complement mask) g x y (omega (arith, g_shape.width)) (omega (arith, g_shape.height)) in
    let d = sample-redrawn mask (λ x y. mask.maxval - sample mask x y) x y p' q' in
    let low' = sample_bounded mask is_mask x y p' q' in
    let here = pairs_at e mask marker n x y is_marker is_mask shape p q in
    let top : f.maxval ≡ marker.maxval = f_shape.maxval in
    let turned = turned_over e f g f.maxval x y (f_shape.width ∙ sym g_shape.width) (f_shape.height ∙ sym g_shape.height)
    (λ u v a b. pairs_at e mask marker n u v is_marker is_mask shape (omega (arith, f_shape.width)) (omega (arith, f_shape.height)) ∙ sym top) in
    omega (arith, shape.maxval)

pub dual : (e : List Offset) (mask marker : Picture) → IsPicture marker → IsPicture mask → SameShape mask marker
    → reconstruction_by_erosion e mask marker ≡ complement (reconstruction e (complement mask) (complement marker))
dual e mask marker is_marker is_mask shape =
    let n = marker.height * marker.width in
    let f = sunk e mask marker n in
    let g = spread e (complement mask) (complement marker) n in
    let f_shape = sunk_shape e mask marker n in
    let g_shape = spread_shape e (complement mask) (complement marker) n in
    same_picture f (complement g)
    (record { kind = f_shape.kind ∙ sym g_shape.kind; width = f_shape.width ∙ sym g_shape.width; height = f_shape.height ∙ sym g_shape.height; maxval = f_shape.maxval ∙ sym g_shape.maxval })
    (sunk_size e mask marker n ∙ sym (product f.height f.width marker.height marker.width f_shape.height f_shape.width))
    (length-rows (λ x y. g.maxval - sample g x y) g.width 0 g.height)
    (λ x y p q.
    let pair = pairs_at e mask marker n x y is_marker is_mask shape (omega (arith, f_shape.width)) (omega (arith, f_shape.height)) in
    let is = sample-redrawn g (λ x y. g.maxval - sample g x y) x y (omega (arith, f_shape.width, g_shape.width)) (omega (arith, f_shape.height, g_shape.height)) in
    omega (arith, g_shape.maxval))
