-- One element in place of another, and of two in a row.
use Rattle.std.proofs.Common.{◌≡◌, ℕ, ◌<◌, List, arith}
use Rattle.std.proofs.Math.Nat.{le_antisymm}
use Rattle.mw_model.specs.declared.offsets.Offset.{Offset}
use Rattle.mw_model.specs.Pictures.{Picture}
use Rattle.mw_model.specs.Flat.{under, least, greatest, erosion, dilation}
use Rattle.mw_model.proofs.ImagePlaces.{drawn_same}
use Rattle.mw_model.proofs.ImageOrder.{sample-erosion, sample-dilation}
use Rattle.mw_model.proofs.Covers.{Covers, least_below, below_least, below_greatest, greatest_below, least_at_most}

-- a place of the frame between two others
pub record Between (b c : List Offset) (width height x y u v : ℕ) : Type 0 where
  pub s : ℕ
  pub t : ℕ
  pub across : s < width
  pub down : t < height
  pub first : Covers b x y s t
  pub second : Covers c s t u v

-- on this frame the last element covers what the first two cover in a row
pub record AreComposed (b c d : List Offset) (width height : ℕ) : Type 0 where
  pub within : (x y s t u v : ℕ) → Covers b x y s t → Covers c s t u v → Covers d x y u v
  pub whole : (x y u v : ℕ) → x < width → y < height → u < width → v < height → Covers d x y u v → Between b c width height x y u v

pub erosion-erosion : (b c d : List Offset) (f : Picture) → AreComposed b c d f.width f.height → erosion b (erosion c f) ≡ erosion d f
erosion-erosion b c d f composed =
    let g = erosion c f in
    drawn_same f.kind f.width f.height f.maxval (λ x y. least f.maxval (under g b x y)) (λ x y. least f.maxval (under f d x y))
    (λ x y p q. le_antisymm
    (below_least f d f.maxval x y (least f.maxval (under g b x y)) (least_at_most f.maxval (under g b x y))
    (λ u v p' q' covers.
    let way = composed.whole x y u v p q p' q' covers in
    omega (
      arith,
      least_below g b f.maxval x y way.s way.t way.across way.down way.first,
      sample-erosion c f way.s way.t way.across way.down,
      least_below f c f.maxval way.s way.t u v p' q' way.second,
    )))
    (below_least g b f.maxval x y (least f.maxval (under f d x y)) (least_at_most f.maxval (under f d x y))
    (λ s t p' q' covers.
    rw (sample-erosion c f s t p' q')
    (below_least f c f.maxval s t (least f.maxval (under f d x y)) (least_at_most f.maxval (under f d x y))
    (λ u v in_u in_v then. least_below f d f.maxval x y u v in_u in_v (composed.within x y s t u v covers then))))))

pub dilation-dilation : (b c d : List Offset) (f : Picture) → AreComposed b c d f.width f.height → dilation b (dilation c f) ≡ dilation d f
dilation-dilation b c d f composed =
    let g = dilation c f in
    drawn_same f.kind f.width f.height f.maxval (λ x y. greatest (under g b x y)) (λ x y. greatest (under f d x y))
    (λ x y p q. le_antisymm
    (greatest_below g b x y (greatest (under f d x y))
    (λ s t p' q' covers.
    rw (sample-dilation c f s t p' q')
    (greatest_below f c s t (greatest (under f d x y))
    (λ u v in_u in_v then. below_greatest f d x y u v in_u in_v (composed.within x y s t u v covers then)))))
    (greatest_below f d x y (greatest (under g b x y))
    (λ u v p' q' covers.
    let way = composed.whole x y u v p q p' q' covers in
    omega (
      arith,
      below_greatest g b x y way.s way.t way.across way.down way.first,
      sample-dilation c f way.s way.t way.across way.down,
      below_greatest f c way.s way.t u v p' q' way.second,
    ))))

-- the two elements cover the same places
pub record CoverSame (b c : List Offset) : Type 0 where
  pub to : (x y u v : ℕ) → Covers b x y u v → Covers c x y u v
  pub from : (x y u v : ℕ) → Covers c x y u v → Covers b x y u v

pub erosion_same : (b c : List Offset) (f : Picture) → CoverSame b c → erosion b f ≡ erosion c f
erosion_same b c f same =
    drawn_same f.kind f.width f.height f.maxval (λ x y. least f.maxval (under f b x y)) (λ x y. least f.maxval (under f c x y))
    (λ x y p q. le_antisymm
    (below_least f c f.maxval x y (least f.maxval (under f b x y)) (least_at_most f.maxval (under f b x y)) (λ u v p' q' covers. least_below f b f.maxval x y u v p' q' (same.from x y u v covers)))
    (below_least f b f.maxval x y (least f.maxval (under f c x y)) (least_at_most f.maxval (under f c x y)) (λ u v p' q' covers. least_below f c f.maxval x y u v p' q' (same.to x y u v covers))))

pub dilation_same : (b c : List Offset) (f : Picture) → CoverSame b c → dilation b f ≡ dilation c f
dilation_same b c f same =
    drawn_same f.kind f.width f.height f.maxval (λ x y. greatest (under f b x y)) (λ x y. greatest (under f c x y))
    (λ x y p q. le_antisymm
    (greatest_below f b x y (greatest (under f c x y)) (λ u v p' q' covers. below_greatest f c x y u v p' q' (same.to x y u v covers)))
    (greatest_below f c x y (greatest (under f b x y)) (λ u v p' q' covers. below_greatest f b x y u v p' q' (same.from x y u v covers))))
