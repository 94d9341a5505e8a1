-- Restorations and spectra as they are made, one turn after another.
use Rattle.std.proofs.Common.{◌≡◌, ℕ, zero, suc, ◌+◌, ◌<◌, ◌≤◌, List, [], ◌∷◌, ◌++◌, max, refl, ap, sym, arith, ◌∙◌}
use Rattle.std.proofs.lemmas.List.FromFn.{map-range_with_len_more}
use Rattle.mw_model.specs.declared.offsets.Offset.{Offset}
use Rattle.mw_model.specs.Pictures.{Picture, sample}
use Rattle.mw_model.specs.Flat.{under, greatest, dilation, reflected}
use Rattle.mw_model.specs.Iterates.{times, level_set, union, restoration, volume, spectrum}
use Rattle.mw_model.specs.Laws.{SameShape}
use Rattle.mw_gran.specs.Turns.{restored}
use Rattle.mw_model.proofs.Covers.{below_greatest, greatest_below}
use Rattle.mw_model.proofs.ImagePlaces.{drawn_same, redrawn_shape, shape_trans, shape_sym, shape_itself}
use Rattle.mw_model.proofs.ImageOrder.{sample-dilation}
use Rattle.mw_model.proofs.Iterated.{dilated_shape}
use Rattle.mw_model.proofs.SkeletonLaws.{sample-union}

-- a dilation of a union is the union of the dilations
dilation-union : (b : List Offset) (f g : Picture) → SameShape g f → dilation b (union f g) ≡ union (dilation b f) (dilation b g)
dilation-union b f g shape =
    drawn_same f.kind f.width f.height f.maxval (λ x y. greatest (under (union f g) b x y)) (λ x y. max (sample (dilation b f) x y) (sample (dilation b g) x y)) each
  where
    each : (x y : ℕ) → x < f.width → y < f.height → greatest (under (union f g) b x y) ≡ max (sample (dilation b f) x y) (sample (dilation b g) x y)
    each x y p q =
        let p' : x < g.width = omega (arith, shape.width) in
        let q' : y < g.height = omega (arith, shape.height) in
        let first = sample-dilation b f x y p q in
        let second = sample-dilation b g x y p' q' in
        let upper : greatest (under (union f g) b x y) ≤ max (greatest (under f b x y)) (greatest (under g b x y)) =
        greatest_below (union f g) b x y (max (greatest (under f b x y)) (greatest (under g b x y)))
        (λ u v in_u in_v covers.
        let both = sample-union f g u v in_u in_v in
        let left = below_greatest f b x y u v in_u in_v covers in
        let right = below_greatest g b x y u v (omega (arith, shape.width)) (omega (arith, shape.height)) covers in
        omega arith) in
        let left : greatest (under f b x y) ≤ greatest (under (union f g) b x y) =
        greatest_below f b x y (greatest (under (union f g) b x y))
        (λ u v in_u in_v covers.
        let both = sample-union f g u v in_u in_v in
        let there = below_greatest (union f g) b x y u v in_u in_v covers in
        omega arith) in
        let right : greatest (under g b x y) ≤ greatest (under (union f g) b x y) =
        greatest_below g b x y (greatest (under (union f g) b x y))
        (λ u v in_u in_v covers.
        let in_u' : u < f.width = omega (arith, shape.width) in
        let in_v' : v < f.height = omega (arith, shape.height) in
        let both = sample-union f g u v in_u' in_v' in
        let there = below_greatest (union f g) b x y u v in_u' in_v' covers in
        omega arith) in
        omega arith

union-assoc : (f g h : Picture) → SameShape g f → union (union f g) h ≡ union f (union g h)
union-assoc f g h shape =
    drawn_same f.kind f.width f.height f.maxval (λ x y. max (sample (union f g) x y) (sample h x y)) (λ x y. max (sample f x y) (sample (union g h) x y))
    (λ x y p q.
    let left = sample-union f g x y p q in
    let right = sample-union g h x y (omega (arith, shape.width)) (omega (arith, shape.height)) in
    go _ _ _ _ _ left right)
  where
    go : (s a b c t : ℕ) → s ≡ max a b → t ≡ max b c → max s c ≡ max a t
    go s a b c t e d = omega arith

pub restored_shape : (b : List Offset) (n m : ℕ) (g : Picture) → SameShape (restored b n m g) (level_set (n + 1) g)
unfolding restored
restored_shape b n zero g = shape_itself (level_set (n + 1) g)
restored_shape b n (suc m) g = shape_trans (redrawn_shape (restored b n m g) (λ x y. max (sample (restored b n m g) x y) (sample (times (suc m) (dilation (reflected b)) (level_set (n + m + 2) g)) x y))) (restored_shape b n m g)

part_shape : (b : List Offset) (k n m : ℕ) (g : Picture) → SameShape (times m (dilation b) (level_set k g)) (level_set n g)
part_shape b k n m g = shape_trans (dilated_shape b m (level_set k g)) (record { kind = refl; width = refl; height = refl; maxval = refl })

-- one turn: what is restored of the marks above n + 1 is dilated once, and joined with the marks n + 1
pub restored-turn : (b : List Offset) (n m : ℕ) (g : Picture) → restored b n (suc m) g ≡ union (level_set (n + 1) g) (dilation (reflected b) (restored b (n + 1) m g))
unfolding restored
restored-turn b n zero g = ap (λ (k : ℕ). union (level_set (n + 1) g) (dilation (reflected b) (level_set k g))) (next n)
  where
    next : (n : ℕ) → n + zero + 2 ≡ n + 1 + 1
    next n = omega arith
restored-turn b n (suc m) g =
    let d = dilation (reflected b) in
    let level = level_set (n + 1) g in
    let rest = restored b (n + 1) m g in
    let part = times (suc m) d (level_set (n + suc m + 2) g) in
    let same : n + suc m + 2 ≡ n + 1 + m + 2 = omega arith in
    ap (λ (t : Picture). union t (d part)) (restored-turn b n m g)
    ∙ union-assoc level (d rest) (d part) (shape_trans (redrawn_shape rest (λ x y. greatest (under rest (reflected b) x y))) (shape_trans (restored_shape b (n + 1) m g) (record { kind = refl; width = refl; height = refl; maxval = refl })))
    ∙ ap (union level) (sym (dilation-union (reflected b) rest part (shape_trans (part_shape (reflected b) (n + suc m + 2) (n + 1 + 1) (suc m) g) (shape_sym (restored_shape b (n + 1) m g)))))
    ∙ ap (λ (k : ℕ). union level (d (union rest (times (suc m) d (level_set k g))))) same

-- all turns are the restoration
pub restored-all : (b : List Offset) (m : ℕ) (g : Picture) → restored b 0 m g ≡ restoration b m g
unfolding restored
restored-all b zero g = refl
restored-all b (suc m) g =
    ap (λ (t : Picture). union t (times (suc m) (dilation (reflected b)) (level_set (0 + m + 2) g))) (restored-all b m g)
    ∙ ap (λ (k : ℕ). union (restoration b m g) (times (suc m) (dilation (reflected b)) (level_set k g))) (same m)
  where
    same : (m : ℕ) → 0 + m + 2 ≡ m + 2
    same m = omega arith

-- a spectrum with one volume more
pub spectrum-more : (b : List Offset) (depth : ℕ) (f : Picture) → spectrum b (depth + 1) f ≡ spectrum b depth f ++ volume b (depth + 1) f ∷ []
spectrum-more b depth f = map-range_with_len_more (λ n. volume b n f) 0 (depth + 1) (depth + 1) (omega arith)
