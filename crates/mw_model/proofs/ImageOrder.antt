-- The order of images, and the adjunction.
use Rattle.std.proofs.Common.{◌≡◌, ℕ, ◌<◌, ◌≤◌, List, refl, ap, arith}
use Rattle.mw_model.specs.declared.offsets.Offset.{Offset}
use Rattle.mw_model.specs.Pictures.{Picture, sample, redrawn}
use Rattle.mw_model.specs.Flat.{under, least, greatest, erosion, dilation, reflected, opening, closing}
use Rattle.mw_model.specs.Laws.{Below, SameShape}
use Rattle.mw_model.proofs.ImagePlaces.{sample-redrawn, drawn_same, redrawn_shape, shape_sym, below_itself}
use Rattle.mw_model.proofs.Covers.{IsTurned, reflected-IsTurned, turned_back, least_below, below_least, below_greatest, greatest_below, least_at_most}

-- no sample is above the maxval
abbrev pub IsBounded : Picture → Type 0
IsBounded f = (x y : ℕ) → x < f.width → y < f.height → sample f x y ≤ f.maxval

pub sample-erosion : (b : List Offset) (f : Picture) (x y : ℕ) → x < f.width → y < f.height → sample (erosion b f) x y ≡ least f.maxval (under f b x y)
sample-erosion b f x y p q = sample-redrawn f (λ x y. least f.maxval (under f b x y)) x y p q

pub sample-dilation : (b : List Offset) (f : Picture) (x y : ℕ) → x < f.width → y < f.height → sample (dilation b f) x y ≡ greatest (under f b x y)
sample-dilation b f x y p q = sample-redrawn f (λ x y. greatest (under f b x y)) x y p q

-- An image below the erosion has its dilation by the turned element below.
pub dilation_below : (f g : Picture) (b c : List Offset) → IsTurned c b → SameShape g f → Below g (erosion b f) → Below (dilation c g) f
dilation_below f g b c turns frame below x y p q =
    rw (sample-redrawn g (λ x y. greatest (under g c x y)) x y p q)
    (greatest_below g c x y (sample f x y)
    (λ u v p' q' covers.
    let upper = below u v p' q' in
    let lower = least_below f b f.maxval u v x y (omega (arith, frame.width)) (omega (arith, frame.height)) (turns x y u v covers) in
    let is = sample-redrawn f (λ x y. least f.maxval (under f b x y)) u v (omega (arith, frame.width)) (omega (arith, frame.height)) in
    omega arith))

pub below_erosion : (f g : Picture) (b c : List Offset) → IsTurned b c → SameShape g f → IsBounded g → Below (dilation c g) f → Below g (erosion b f)
below_erosion f g b c turns frame bounded below x y p q =
    rw (sample-redrawn f (λ x y. least f.maxval (under f b x y)) x y (omega (arith, frame.width)) (omega (arith, frame.height)))
    (below_least f b f.maxval x y (sample g x y) (omega (arith, bounded x y p q, frame.maxval))
    (λ u v p' q' covers.
    let in_u : u < g.width = omega (arith, frame.width) in
    let in_v : v < g.height = omega (arith, frame.height) in
    let upper = below u v in_u in_v in
    let lower = below_greatest g c u v x y p q (turns x y u v covers) in
    let is = sample-redrawn g (λ x y. greatest (under g c x y)) u v in_u in_v in
    omega arith))

pub bounded_erosion : (b : List Offset) (f : Picture) → IsBounded (erosion b f)
bounded_erosion b f x y p q = omega (arith, sample-erosion b f x y p q, least_at_most f.maxval (under f b x y))

pub bounded_dilation : (b : List Offset) (f : Picture) → IsBounded f → IsBounded (dilation b f)
bounded_dilation b f bounded x y p q =
    omega (arith, sample-dilation b f x y p q, greatest_below f b x y f.maxval (λ u v p' q' covers. bounded u v p' q'))

pub erosion_rises : (f g : Picture) (b : List Offset) → SameShape f g → Below f g → Below (erosion b f) (erosion b g)
erosion_rises f g b shape below x y p q =
    let p' : x < g.width = omega (arith, shape.width) in
    let q' : y < g.height = omega (arith, shape.height) in
    let most = least_at_most f.maxval (under f b x y) in
    rw (sample-erosion b f x y p q, sample-erosion b g x y p' q')
    (below_least g b g.maxval x y (least f.maxval (under f b x y)) (omega (arith, shape.maxval))
    (λ u v p'' q'' covers.
    let in_u : u < f.width = omega (arith, shape.width) in
    let in_v : v < f.height = omega (arith, shape.height) in
    omega (arith, least_below f b f.maxval x y u v in_u in_v covers, below u v in_u in_v)))

pub dilation_rises : (f g : Picture) (b : List Offset) → SameShape f g → Below f g → Below (dilation b f) (dilation b g)
dilation_rises f g b shape below x y p q =
    let p' : x < g.width = omega (arith, shape.width) in
    let q' : y < g.height = omega (arith, shape.height) in
    rw (sample-dilation b f x y p q, sample-dilation b g x y p' q')
    (greatest_below f b x y (greatest (under g b x y))
    (λ u v in_u in_v covers.
    omega (arith, below_greatest g b x y u v (omega (arith, shape.width)) (omega (arith, shape.height)) covers, below u v in_u in_v)))

-- images drawn on one frame that are below one another are one
pub one_from_below : (f : Picture) (value other : ℕ → ℕ → ℕ) → Below (redrawn f value) (redrawn f other) → Below (redrawn f other) (redrawn f value) → redrawn f value ≡ redrawn f other
one_from_below f value other first second =
    drawn_same f.kind f.width f.height f.maxval value other
    (λ x y p q. omega (arith, first x y p q, second x y p q, sample-redrawn f value x y p q, sample-redrawn f other x y p q))

pub opening_below : (b : List Offset) (f : Picture) → Below (opening b f) f
opening_below b f = dilation_below f (erosion b f) b (reflected b) (turned_back b) (redrawn_shape f _) (below_itself (erosion b f))

pub opening_twice : (b : List Offset) (f : Picture) → opening b (opening b f) ≡ opening b f
opening_twice b f =
    ap (dilation (reflected b)) (one_from_below f (λ x y. least f.maxval (under (opening b f) b x y)) (λ x y. least f.maxval (under f b x y))
    (erosion_rises (opening b f) f b (redrawn_shape f _) (opening_below b f))
    (below_erosion (opening b f) (erosion b f) b (reflected b) (reflected-IsTurned b) (record { kind = refl; width = refl; height = refl; maxval = refl }) (bounded_erosion b f) (below_itself (opening b f))))

pub closing_above : (b : List Offset) (f : Picture) → IsBounded f → Below f (closing b f)
closing_above b f bounded = below_erosion (dilation b f) f (reflected b) b (turned_back b) (shape_sym (redrawn_shape f _)) bounded (below_itself (dilation b f))

pub closing_twice : (b : List Offset) (f : Picture) → IsBounded f → closing b (closing b f) ≡ closing b f
closing_twice b f bounded =
    ap (erosion (reflected b)) (one_from_below f (λ x y. greatest (under (closing b f) b x y)) (λ x y. greatest (under f b x y))
    (dilation_below (dilation b f) (closing b f) (reflected b) b (reflected-IsTurned b) (record { kind = refl; width = refl; height = refl; maxval = refl }) (below_itself (closing b f)))
    (dilation_rises f (closing b f) b (shape_sym (redrawn_shape f _)) (closing_above b f bounded)))
