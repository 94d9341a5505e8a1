-- Vectors of differences that stop at 0.
use Rattle.std.proofs.Common.{◌≡◌, ap, ◌∙◌, ℕ, suc, ◌+◌, ◌-◌, ◌%◌, ◌^◌, ◌<◌, max, cond, ltb, List, [], ◌∷◌, length, take, map, get_or, refl, arith}
use Rattle.std.proofs.lemmas.List.{take_all}
use Rattle.std.proofs.lemmas.Simd.{tops_compared, put_chunk_whole, length-zip2}
use Rattle.std.specs.Int.{Width}
use mir.Val.{bits, hbits, Fits}
use Rattle.mw_model.proofs.mw_facts.Numbers.{cond-max}
use lib.Lanes.{zip2, sel_l, top, put_chunk}

pub wrapped_8 : (x y : ℕ) → x < 256 → y < 256 → (max x y + (256 - y)) % 256 ≡ x - y
wrapped_8 x y p q = omega arith

pub wrapped_16 : (x y : ℕ) → x < 65536 → y < 65536 → (max x y + (65536 - y)) % 65536 ≡ x - y
wrapped_16 x y p q = omega arith

difference_lanes : (less : ℕ → ℕ → ℕ) (p : ℕ) → ((x y : ℕ) → x < p → y < p → less (max x y) y ≡ x - y)
    → (xs ys : List ℕ) → ((i : ℕ) → i < length xs → get_or xs i 0 < p) → ((i : ℕ) → i < length ys → get_or ys i 0 < p)
    → zip2 less (sel_l (zip2 ltb xs ys) ys xs) ys ≡ zip2 (λ (x y : ℕ). x - y) xs ys
difference_lanes less p law [] ys xs-fit ys-fit = refl
difference_lanes less p law (x ∷ xs) [] xs-fit ys-fit = refl
difference_lanes less p law (x ∷ xs) (y ∷ ys) xs-fit ys-fit =
    let here : less (cond (ltb x y) y x) y ≡ x - y = rw (cond-max x y) (law x y (xs-fit 0 (omega arith)) (ys-fit 0 (omega arith))) in
    rw (here, difference_lanes less p law xs ys (λ i lt. xs-fit (suc i) (omega arith)) (λ i lt. ys-fit (suc i) (omega arith))) refl

pub difference_block : (w : Width) (less : ℕ → ℕ → ℕ) (p : ℕ) → ((x y : ℕ) → x < p → y < p → less (max x y) y ≡ x - y) → (xs ys : List ℕ) → length xs ≡ 64 → length ys ≡ 64 → p ≡ 2 ^ bits w
    → ((i : ℕ) → Fits w (get_or xs i 0)) → ((i : ℕ) → Fits w (get_or ys i 0))
    → zip2 less (sel_l (map (top (hbits w)) (zip2 (λ a b. cond (ltb a b) (2 ^ bits w - 1) 0) (take 64 xs) (take 64 ys))) (take 64 ys) (take 64 xs)) (take 64 ys) ≡ zip2 (λ (x y : ℕ). x - y) xs ys
difference_block w less p law xs ys whole paired p-is xs-fit ys-fit =
    rw (take_all 64 xs (omega arith), take_all 64 ys (omega arith), tops_compared w ltb xs ys)
    (difference_lanes less p law xs ys (λ i _. rw p-is (xs-fit i).fits) (λ i _. rw p-is (ys-fit i).fits))

pub difference_stored : (xs ys made : List ℕ) → length xs ≡ 64 → length ys ≡ 64 → made ≡ zip2 (λ (x y : ℕ). x - y) xs ys → put_chunk 0 xs made ≡ zip2 (λ (x y : ℕ). x - y) xs ys
difference_stored xs ys made whole paired made-is =
    rw made-is (put_chunk_whole xs (zip2 (λ (x y : ℕ). x - y) xs ys) (omega (arith, length-zip2 (λ (x y : ℕ). x - y) xs ys (omega arith))))

-- the levels of differences
pub map-zip2 : {A : Type 0} (f : A → A → A) (level : A → ℕ) → ((a b : A) → level (f a b) ≡ level a - level b)
    → (xs ys : List A) → map level (zip2 f xs ys) ≡ zip2 (λ (m n : ℕ). m - n) (map level xs) (map level ys)
map-zip2 f level law [] ys = refl
map-zip2 f level law (x ∷ xs) [] = refl
map-zip2 f level law (x ∷ xs) (y ∷ ys) = ap (λ (t : ℕ). t ∷ map level (zip2 f xs ys)) (law x y) ∙ ap (λ (t : List ℕ). (level x - level y) ∷ t) (map-zip2 f level law xs ys)
