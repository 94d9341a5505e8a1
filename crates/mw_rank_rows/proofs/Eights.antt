-- Vectors of eight lanes.
use Rattle.std.proofs.Common.{◌≡◌, ℕ, zero, suc, ◌+◌, ◌-◌, ◌*◌, ◌^◌, ◌<◌, ◌≤◌, ◌%◌, ◌↔◌, eq-eqb, Bool, true, false, cond, List, [], ◌∷◌, length, map, get_or, refl, ap, arith, ◌∙◌}
use Rattle.std.specs.Int.{Width}
use Rattle.std.specs.Prelude.{IsTrue, nat_eq}
use Rattle.std.proofs.lemmas.Bool.{eqb-true}
use Rattle.std.proofs.lemmas.Grind.{pow_more}
use Rattle.std.proofs.lemmas.Simd.{tops_compared, length-zip2, mask_l-mod}
use mir.Val.{bits, hbits}
use lib.Lanes.{zip2, top, mask_l}

power : (n : ℕ) → 2 ^ suc n ≡ 2 * 2 ^ n
power n = ap (λ (m : ℕ). 2 ^ m) (let e : suc n ≡ n + 1 = omega arith in e) ∙ pow_more 2 n ∙ (let e : 2 ^ n * 2 ≡ 2 * 2 ^ n = omega arith in e)

-- where all tests hold, all bits are set
mask_of_all : (t : ℕ → ℕ → Bool) (n : ℕ) (us vs : List ℕ) → length us ≡ n → length vs ≡ n → ((j : ℕ) → j < n → IsTrue (t (get_or us j 0) (get_or vs j 0))) → mask_l (zip2 t us vs) + 1 ≡ 2 ^ n
mask_of_all t zero [] vs us-long vs-long all = refl
mask_of_all t zero (u ∷ us) vs us-long vs-long all = absurd (omega arith)
mask_of_all t (suc n) [] vs us-long vs-long all = absurd (omega arith)
mask_of_all t (suc n) (u ∷ us) [] us-long vs-long all = absurd (omega arith)
mask_of_all t (suc n) (u ∷ us) (v ∷ vs) us-long vs-long all =
    let here : t u v ≡ true = all 0 (omega arith) in
    let rest = mask_of_all t n us vs (omega arith) (omega arith) (λ j lt. all (suc j) (omega arith)) in
    rw here (omega (arith, rest, power n))

all_of_mask : (t : ℕ → ℕ → Bool) (n : ℕ) (us vs : List ℕ) → length us ≡ n → length vs ≡ n → mask_l (zip2 t us vs) + 1 ≡ 2 ^ n → (j : ℕ) → j < n → IsTrue (t (get_or us j 0) (get_or vs j 0))
all_of_mask t zero us vs us-long vs-long full j lt = absurd (omega arith)
all_of_mask t (suc n) [] vs us-long vs-long full j lt = absurd (omega arith)
all_of_mask t (suc n) (u ∷ us) [] us-long vs-long full j lt = absurd (omega arith)
all_of_mask t (suc n) (u ∷ us) (v ∷ vs) us-long vs-long full zero lt = first (t u v) (mask_l (zip2 t us vs)) (2 ^ n) (full ∙ power n)
  where
    first : (b : Bool) (m p : ℕ) → cond b 1 0 + 2 * m + 1 ≡ 2 * p → IsTrue b
    first true m p e = refl
    first false m p e = absurd (omega arith)
all_of_mask t (suc n) (u ∷ us) (v ∷ vs) us-long vs-long full (suc j) lt = all_of_mask t n us vs (omega arith) (omega arith) (half (t u v) (mask_l (zip2 t us vs)) (2 ^ n) (full ∙ power n)) j (omega arith)
  where
    half : (b : Bool) (m p : ℕ) → cond b 1 0 + 2 * m + 1 ≡ 2 * p → m + 1 ≡ p
    half true m p e = omega arith
    half false m p e = absurd (omega arith)

pub all_tests : (w : Width) (t : ℕ → ℕ → Bool) (us vs : List ℕ) → length us ≡ 8 → length vs ≡ 8
    → IsTrue (nat_eq (mask_l (map (top (hbits w)) (zip2 (λ (a b : ℕ). cond (t a b) (2 ^ bits w - 1) 0) us vs)) % 18446744073709551616) 255)
    ↔ ((j : ℕ) → j < 8 → IsTrue (t (get_or us j 0) (get_or vs j 0)))
all_tests w t us vs us-long vs-long =
    rw (tops_compared w t us vs)
    (let long : length (zip2 t us vs) ≡ 8 = length-zip2 t us vs (omega arith) ∙ us-long in
    let small : mask_l (zip2 t us vs) % 18446744073709551616 ≡ mask_l (zip2 t us vs) = mask_l-mod (zip2 t us vs) 64 (omega arith) in
    rw small (
      (λ full. all_of_mask t 8 us vs us-long vs-long (ap (λ (m : ℕ). m + 1) (eqb-true (mask_l (zip2 t us vs)) 255 full))),
      (λ all. eq-eqb (mask_l (zip2 t us vs)) 255 (let full = mask_of_all t 8 us vs us-long vs-long all in omega arith)),
    ))

pub one_if-le : (b : Bool) → cond b 1 0 ≤ 1
one_if-le true = omega arith
one_if-le false = omega arith
