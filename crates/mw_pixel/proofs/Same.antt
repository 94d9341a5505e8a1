-- Rows that are equal up to a place.
use Rattle.std.proofs.Common.{◌≡◌, ℕ, ◌+◌, ◌-◌, ◌%◌, ◌^◌, ◌↔◌, IsTrue, subst, List, [], ◌∷◌, ◌++◌, length, take, drop, map, cond, not, eqb, refl, ap, sym, arith, ◌∙◌}
use Rattle.std.proofs.lemmas.List.{take_all}
use Rattle.std.proofs.lemmas.Bool.{eqb-true}
use Rattle.std.proofs.lemmas.Bool.Decides.{nat_tests}
use Rattle.std.proofs.lemmas.Simd.{tops_compared, length-zip2, mask_l-mod}
use Rattle.std.proofs.Math.Seq.{take-add}
use Rattle.std.specs.Int.{Width}
use mir.Val.{bits, hbits}
use lib.Lanes.{zip2, mask_l, top}

-- equal blocks after equal fronts
pub same_more : {A : Type 0} (i m k : ℕ) (xs ys : List A) → k ≡ m → take i xs ≡ take i ys → take k (drop i xs) ≡ take k (drop i ys) → take (i + m) xs ≡ take (i + m) ys
same_more i m k xs ys k-is front block =
    take-add i m xs
    ∙ ap (λ (t : List _). t ++ take m (drop i xs)) front
    ∙ ap (λ (t : List _). take i ys ++ t) (ap (λ (t : ℕ). take t (drop i xs)) (sym k-is) ∙ block ∙ ap (λ (t : ℕ). take t (drop i ys)) k-is)
    ∙ sym (take-add i m ys)

eqb-same : (x y : ℕ) → ◌≡◌ {A = ℕ} (cond (not (eqb x y)) 1 0) 0 → x ≡ y
eqb-same x y e = grind (arith, nat_tests)

same_itself : (x : ℕ) → ◌≡◌ {A = ℕ} (cond (not (eqb x x)) 1 0) 0
same_itself x = grind (arith, nat_tests)

none_differ : (xs ys : List ℕ) → length xs ≡ length ys → mask_l (zip2 (λ (x y : ℕ). not (eqb x y)) xs ys) ≡ 0 → xs ≡ ys
none_differ [] [] paired none = refl
none_differ [] (y ∷ ys) paired none = absurd (omega arith)
none_differ (x ∷ xs) [] paired none = absurd (omega arith)
none_differ (x ∷ xs) (y ∷ ys) paired none =
    ap (λ (t : ℕ). t ∷ xs) (eqb-same x y (omega arith)) ∙ ap (λ (t : List ℕ). y ∷ t) (none_differ xs ys (omega arith) (omega arith))

differ_nowhere : (xs : List ℕ) → mask_l (zip2 (λ (x y : ℕ). not (eqb x y)) xs xs) ≡ 0
differ_nowhere [] = refl
differ_nowhere (x ∷ xs) = let here = same_itself x in let rest = differ_nowhere xs in omega arith

-- the mask of 64 pairs is 0 exactly where they are equal
pub same_block : (w : Width) (xs ys : List ℕ) → length xs ≡ 64 → length ys ≡ 64
    → IsTrue (eqb (mask_l (map (top (hbits w)) (zip2 (λ (a b : ℕ). cond (not (eqb a b)) (2 ^ bits w - 1) 0) (take 64 xs) (take 64 ys))) % 2 ^ 64) 0) ↔ (xs ≡ ys)
same_block w xs ys whole paired =
    let both : length (zip2 (λ (x y : ℕ). not (eqb x y)) xs ys) ≡ length xs = length-zip2 (λ (x y : ℕ). not (eqb x y)) xs ys (omega arith) in
    let mask : mask_l (map (top (hbits w)) (zip2 (λ (a b : ℕ). cond (not (eqb a b)) (2 ^ bits w - 1) 0) (take 64 xs) (take 64 ys))) % 2 ^ 64 ≡ mask_l (zip2 (λ (x y : ℕ). not (eqb x y)) xs ys) =
    rw (take_all 64 xs (omega arith), take_all 64 ys (omega arith), tops_compared w (λ (x y : ℕ). not (eqb x y)) xs ys)
    (mask_l-mod (zip2 (λ (x y : ℕ). not (eqb x y)) xs ys) 64 (omega arith)) in
    rw mask (λ is. none_differ xs ys (omega arith) (eqb-true (mask_l (zip2 (λ (x y : ℕ). not (eqb x y)) xs ys)) 0 is), λ same. subst (λ (t : List ℕ). IsTrue (eqb (mask_l (zip2 (λ (x y : ℕ). not (eqb x y)) xs t)) 0)) same (rw (differ_nowhere xs) refl))
