-- Numbers and their bits, the lowest first.
use Rattle.std.proofs.Common.{◌≡◌, ℕ, zero, suc, ◌+◌, ◌*◌, ◌/◌, ◌%◌, ◌^◌, ◌<◌, ◌≤◌, List, [], ◌∷◌, ◌++◌, length, take, drop, replicate, get_or, refl, sym, ap, ◌∙◌, arith}
use Rattle.std.specs.Int.{bit_at}
use Rattle.std.specs.Simd.Lanes.{number_l, digits_l}
use Rattle.std.proofs.Math.Nat.{pow-succ'}
use Rattle.std.proofs.lemmas.Nat.{pow_pos}
use Rattle.std.proofs.lemmas.Nat.Bits.{bit_at_lowest, bit_at-suc, bit_at-zero}
use Rattle.mw_netpbm_plain.proofs.Sides.{Within}

lowest_of : (b r : ℕ) → b ≤ 1 → (b + 2 * r) % 2 ≡ b
lowest_of b r le = omega arith

half_of : (b r : ℕ) → b ≤ 1 → (b + 2 * r) / 2 ≡ r
half_of b r le = omega arith

regroup : (a b c : ℕ) → a * b * c ≡ a * (b * c)
regroup a b c = omega arith

-- twice a power
pub doubled : (k r : ℕ) → 2 ^ suc k * r ≡ 2 * (2 ^ k * r)
doubled k r = ap (λ (n : ℕ). n * r) (pow-succ' 2 k) ∙ regroup 2 (2 ^ k) r

pub number_bit : (bits : List ℕ) (i : ℕ) → Within 1 bits → bit_at (number_l 2 bits) i ≡ get_or bits i 0
number_bit [] i w = bit_at-zero i
number_bit (b ∷ bs) zero w = bit_at_lowest (b + 2 * number_l 2 bs) ∙ lowest_of b (number_l 2 bs) w.0
number_bit (b ∷ bs) (suc i) w = bit_at-suc (b + 2 * number_l 2 bs) i ∙ ap (λ (n : ℕ). bit_at n i) (half_of b (number_l 2 bs) w.0) ∙ number_bit bs i w.1

-- the first bits, and the others above them
pub number_parts : (k : ℕ) (bits : List ℕ) → number_l 2 bits ≡ number_l 2 (take k bits) + 2 ^ k * number_l 2 (drop k bits)
number_parts zero bits = omega arith
number_parts (suc k) [] = omega arith
number_parts (suc k) (b ∷ bs) =
    let rest = number_l 2 (drop k bs) in
    omega (arith, number_parts k bs, doubled k rest)

pub number_small : (k : ℕ) (bits : List ℕ) → Within 1 bits → number_l 2 (take k bits) < 2 ^ k
number_small zero bits w = omega arith
number_small (suc k) [] w = pow_pos (suc k)
number_small (suc k) (b ∷ bs) w = omega (arith, w.0, number_small k bs w.1, pow-succ' 2 k)

-- bits of 0 above
pub number_zeros : (bits : List ℕ) (k : ℕ) → number_l 2 (bits ++ replicate k 0) ≡ number_l 2 bits
number_zeros [] zero = refl
number_zeros [] (suc k) = omega (arith, number_zeros [] k)
number_zeros (b ∷ bs) k = ap (λ (n : ℕ). b + 2 * n) (number_zeros bs k)

pub digit_bit : (n word i : ℕ) → i < n → get_or (digits_l 2 n word) i 0 ≡ bit_at word i
digit_bit zero word i lt = absurd (omega arith)
digit_bit (suc n) word zero lt = sym (bit_at_lowest word)
digit_bit (suc n) word (suc i) lt = digit_bit n (word / 2) i (omega arith) ∙ sym (bit_at-suc word i)

pub length-digits : (p n word : ℕ) → length (digits_l p n word) ≡ n
length-digits p zero word = refl
length-digits p (suc n) word = ap suc (length-digits p n (word / p))

-- the bits of a lower number, and those of the number above it
pub digits_parts : (k m low high : ℕ) → low < 2 ^ k → digits_l 2 (k + m) (low + 2 ^ k * high) ≡ digits_l 2 k low ++ digits_l 2 m high
digits_parts zero m low high lt =
    let count : 0 + m ≡ m = omega arith in
    let alone : low + 2 ^ 0 * high ≡ high = omega arith in
    ap (λ (n : ℕ). digits_l 2 n (low + 2 ^ 0 * high)) count ∙ ap (digits_l 2 m) alone
digits_parts (suc k) m low high lt =
    let count : suc k + m ≡ suc (k + m) = omega arith in
    let first : (low + 2 ^ suc k * high) % 2 ≡ low % 2 = omega (arith, doubled k high) in
    let others : (low + 2 ^ suc k * high) / 2 ≡ low / 2 + 2 ^ k * high = omega (arith, doubled k high) in
    let less : low / 2 < 2 ^ k = omega (arith, pow-succ' 2 k) in
    ap (λ (n : ℕ). digits_l 2 n (low + 2 ^ suc k * high)) count
    ∙ ap (λ (n : ℕ). n ∷ digits_l 2 (k + m) ((low + 2 ^ suc k * high) / 2)) first
    ∙ ap (λ (n : ℕ). low % 2 ∷ digits_l 2 (k + m) n) others
    ∙ ap (λ (ds : List ℕ). low % 2 ∷ ds) (digits_parts k m (low / 2) high less)
