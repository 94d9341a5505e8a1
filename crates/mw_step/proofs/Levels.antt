-- Sets have two levels.
use Rattle.std.proofs.Common.{◌≡◌, ◌≢◌, ℕ, zero, suc, ◌<◌, ◌≤◌, All, List, length, map, get_or, replicate, refl, sym, arith, ◌∙◌}
use lib.Lanes.{zip2}
use Rattle.std.specs.Prelude.{◌==◌, if◌then◌else◌, nat_le}
use Rattle.std.proofs.lemmas.Bool.Decides.{nat_tests}
use Rattle.std.proofs.lemmas.List.{ext_get_or, get_or-map, length-map, get_or-replicate, length-replicate}
use Rattle.std.proofs.lemmas.Simd.{get_or-zip2, length-zip2}

-- two values of levels that are one at both levels
pub two_levels : (f g : ℕ → ℕ) (n : ℕ) → n ≤ 1 → f 0 ≡ g 0 → f 1 ≡ g 1 → f n ≡ g n
two_levels f g zero le none one = none
two_levels f g (suc zero) le none one = one
two_levels f g (suc (suc n)) le none one = absurd (omega arith)

pub each_level : (f g : ℕ → ℕ) (xs : List ℕ) → All (λ s. s ≤ 1) xs → f 0 ≡ g 0 → f 1 ≡ g 1 → map f xs ≡ map g xs
each_level f g xs small none one =
    let first = length-map xs f in
    let second = length-map xs g in
    ext_get_or 0 (map f xs) (map g xs) (first ∙ sym second)
    (λ k lt. get_or-map f xs k 0 0 (omega arith) ∙ two_levels f g (get_or xs k 0) (small k 0 (omega arith)) none one ∙ sym (get_or-map g xs k 0 0 (omega arith)))

-- a value that is the same at both levels
pub one_level : (f : ℕ → ℕ) (n m : ℕ) (xs : List ℕ) → All (λ s. s ≤ 1) xs → length xs ≡ m → f 0 ≡ n → f 1 ≡ n → replicate m n ≡ map f xs
one_level f n m xs small size none one =
    let first = length-replicate m n in
    let second = length-map xs f in
    ext_get_or 0 (replicate m n) (map f xs) (first ∙ sym size ∙ sym second)
    (λ k lt. get_or-replicate m k n 0 (omega arith) ∙ sym (two_levels f (λ _. n) (get_or xs k 0) (small k 0 (omega arith)) none one) ∙ sym (get_or-map f xs k 0 0 (omega arith)))

-- a set that is put together with itself
pub with_itself : (f : ℕ → ℕ → ℕ) (xs : List ℕ) → zip2 f xs xs ≡ map (λ s. f s s) xs
with_itself f xs =
    let first = length-zip2 f xs xs refl in
    let second = length-map xs (λ s. f s s) in
    ext_get_or 0 (zip2 f xs xs) (map (λ s. f s s) xs) (first ∙ sym second) (λ k lt. get_or-zip2 f xs xs k 0 0 0 (omega arith) (omega arith) ∙ sym (get_or-map (λ s. f s s) xs k 0 0 (omega arith)))

-- two pairs of levels that are one at all four
four_levels : (f g : ℕ → ℕ → ℕ) (m n : ℕ) → m ≤ 1 → n ≤ 1 → f 0 0 ≡ g 0 0 → f 0 1 ≡ g 0 1 → f 1 0 ≡ g 1 0 → f 1 1 ≡ g 1 1 → f m n ≡ g m n
four_levels f g zero n m-le n-le a b c d = two_levels (f 0) (g 0) n n-le a b
four_levels f g (suc zero) n m-le n-le a b c d = two_levels (f 1) (g 1) n n-le c d
four_levels f g (suc (suc m)) n m-le n-le a b c d = absurd (omega arith)

pub each_pair : (f g : ℕ → ℕ → ℕ) (xs ys : List ℕ) → All (λ s. s ≤ 1) xs → All (λ s. s ≤ 1) ys → length xs ≡ length ys → f 0 0 ≡ g 0 0 → f 0 1 ≡ g 0 1 → f 1 0 ≡ g 1 0 → f 1 1 ≡ g 1 1 → zip2 f xs ys ≡ zip2 g xs ys
each_pair f g xs ys small other same a b c d =
    let first = length-zip2 f xs ys same in
    let second = length-zip2 g xs ys same in
    ext_get_or 0 (zip2 f xs ys) (zip2 g xs ys) (first ∙ sym second)
    (λ k lt. get_or-zip2 f xs ys k 0 0 0 (omega arith) (omega arith) ∙ four_levels f g (get_or xs k 0) (get_or ys k 0) (small k 0 (omega arith)) (other k 0 (omega arith)) a b c d
    ∙ sym (get_or-zip2 g xs ys k 0 0 0 (omega arith) (omega arith)))

-- a level that is not the one that is looked for, and one that is below it
pub other_level : (v n : ℕ) → n ≢ v → ◌≡◌ {A = ℕ} (if n == v then 1 else 0) 0
other_level v n other = grind (arith, nat_tests)

pub lower_level : (k n : ℕ) → n < k → ◌≡◌ {A = ℕ} (if nat_le k n then 1 else 0) 0
lower_level k n lt = grind (arith, nat_tests)
