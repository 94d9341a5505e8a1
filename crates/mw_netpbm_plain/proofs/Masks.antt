-- Masks of bytes: a bit for each, the first one lowest.
use Rattle.std.proofs.Common.{◌≡◌, ℕ, zero, suc, ◌+◌, ◌-◌, ◌*◌, ◌/◌, ◌%◌, ◌^◌, ◌<◌, Bool, true, false, cond, eqb, not, ◌||◌, ◌&&◌, List, [], ◌∷◌, length, map, take, get_or, replicate, min, max, bit_and, bit_or, refl, ap, ◌∙◌, arith}
use Rattle.std.specs.Int.{w8, from_bool}
use Rattle.std.specs.Int.RustNames.{count_ones}
use Rattle.std.proofs.lemmas.Bool.Decides.{nat_tests}
use Rattle.std.proofs.lemmas.List.{take_all}
use Rattle.std.proofs.lemmas.Nat.{ones_cat, mod-mul-add, div-add-mod', mod_below, pow_pos}
use Rattle.std.proofs.lemmas.Simd.{bitmask_splat, bit_mask_l, ones-mask_l}
use Rattle.std.specs.Simd.Lanes.{mask_l}
use Rattle.mw_model.proofs.mw_facts.Numbers.{ones-bit}
use Rattle.mw_model.specs.NetpbmGrammar.{is_white}
use Rattle.mw_netpbm_plain.specs.Tallies.{signs_in, words_in, ends_white, has_hash}
use lib.Bits.{and_step, or_step, or_zero_r}
use lib.Count.{ones}
use lib.Lanes.{zip2, top}

-- the bytes that are b
pub mask_of : (b : ℕ) (bytes : List ℕ) → length bytes ≡ 64
    → mask_l (map (top 7) (zip2 (λ (x y : ℕ). cond (eqb x y) 255 0) (take 64 bytes) (replicate 64 b))) % 2 ^ 64 ≡ mask_l (map (λ (x : ℕ). eqb x b) bytes)
mask_of b bytes size =
    ap (λ (t : List ℕ). mask_l (map (top 7) (zip2 (λ (x y : ℕ). cond (eqb x y) 255 0) t (replicate 64 b))) % 2 ^ 64) (take_all 64 bytes (omega arith))
    ∙ bitmask_splat w8 eqb bytes 64 b size (omega arith)

-- ---- bit by bit

or_digits : (d e m n : ℕ) → d < 2 → e < 2 → bit_or (d + 2 * m) (e + 2 * n) ≡ max d e + 2 * bit_or m n
or_digits d e m n d-lt e-lt =
    let first : (d + 2 * m) / 2 ≡ m = omega arith in
    let second : (e + 2 * n) / 2 ≡ n = omega arith in
    let low : (d + 2 * m) % 2 ≡ d = omega arith in
    let other : (e + 2 * n) % 2 ≡ e = omega arith in
    let high : bit_or ((d + 2 * m) / 2) ((e + 2 * n) / 2) ≡ bit_or m n = ap (λ (t : ℕ). bit_or t ((e + 2 * n) / 2)) first ∙ ap (bit_or m) second in
    omega (arith, or_step (d + 2 * m) (e + 2 * n), high, low, other)

and_digits : (d e m n : ℕ) → d < 2 → e < 2 → bit_and (d + 2 * m) (e + 2 * n) ≡ min d e + 2 * bit_and m n
and_digits d e m n d-lt e-lt =
    let first : (d + 2 * m) / 2 ≡ m = omega arith in
    let second : (e + 2 * n) / 2 ≡ n = omega arith in
    let low : (d + 2 * m) % 2 ≡ d = omega arith in
    let other : (e + 2 * n) % 2 ≡ e = omega arith in
    let high : bit_and ((d + 2 * m) / 2) ((e + 2 * n) / 2) ≡ bit_and m n = ap (λ (t : ℕ). bit_and t ((e + 2 * n) / 2)) first ∙ ap (bit_and m) second in
    omega (arith, and_step (d + 2 * m) (e + 2 * n), high, low, other)

ones_none : ones 0 ≡ 0
unfolding ones
ones_none = refl

ones_digit : (d m : ℕ) → d < 2 → ones (d + 2 * m) ≡ d + ones m
unfolding ones
ones_digit d m lt =
    let turned : d + 2 * m ≡ m * 2 ^ 1 + d = omega arith in
    let one = ones-bit d lt in
    ap ones turned ∙ ones_cat 1 m d (omega arith) ∙ omega arith

pub as_digit : (b : Bool) → from_bool b ≡ cond b 1 0
as_digit true = refl
as_digit false = refl

one_if-small : (b : Bool) → cond b 1 0 < 2
one_if-small true = omega arith
one_if-small false = omega arith

max-one_if : (a b : Bool) → max (cond a 1 0) (cond b 1 0) ≡ cond (a || b) 1 0
max-one_if true true = omega arith
max-one_if true false = omega arith
max-one_if false true = omega arith
max-one_if false false = omega arith

starts_word : (white before : Bool) → min (1 - cond white 1 0) (cond before 1 0) ≡ cond (before && not white) 1 0
starts_word true true = omega arith
starts_word true false = omega arith
starts_word false true = omega arith
starts_word false false = omega arith

other_digit : (b : Bool) → cond (not b) 1 0 ≡ 1 - cond b 1 0
other_digit true = omega arith
other_digit false = omega arith

-- ---- masks joined

or_masks : {X : Type 0} (p q : X → Bool) (xs : List X) → bit_or (mask_l (map p xs)) (mask_l (map q xs)) ≡ mask_l (map (λ x. p x || q x) xs)
or_masks p q [] = refl
or_masks p q (x ∷ xs) =
    or_digits (cond (p x) 1 0) (cond (q x) 1 0) (mask_l (map p xs)) (mask_l (map q xs)) (one_if-small (p x)) (one_if-small (q x))
    ∙ ap (λ (t : ℕ). t + 2 * bit_or (mask_l (map p xs)) (mask_l (map q xs))) (max-one_if (p x) (q x))
    ∙ ap (λ (t : ℕ). cond (p x || q x) 1 0 + 2 * t) (or_masks p q xs)

same_masks : {X : Type 0} (p q : X → Bool) (xs : List X) → ((x : X) → p x ≡ q x) → mask_l (map p xs) ≡ mask_l (map q xs)
same_masks p q [] same = refl
same_masks p q (x ∷ xs) same = ap (λ (b : Bool). cond b 1 0 + 2 * mask_l (map p xs)) (same x) ∙ ap (λ (t : ℕ). cond (q x) 1 0 + 2 * t) (same_masks p q xs same)

or_four : (a b c d : Bool) → (((a || b) || c) || d) ≡ (a || b || c || d)
or_four true b c d = refl
or_four false true c d = refl
or_four false false c d = refl

-- the white bytes
pub white_mask : (a b c d : ℕ) (bytes : List ℕ) → a ≡ mask_l (map (λ (x : ℕ). eqb x 9) bytes) → b ≡ mask_l (map (λ (x : ℕ). eqb x 10) bytes) → c ≡ mask_l (map (λ (x : ℕ). eqb x 13) bytes) → d ≡ mask_l (map (λ (x : ℕ). eqb x 32) bytes)
    → bit_or (bit_or (bit_or a b) c) d ≡ mask_l (map is_white bytes)
white_mask a b c d bytes a-is b-is c-is d-is =
    ap (λ (t : ℕ). bit_or (bit_or (bit_or t b) c) d) a-is
    ∙ ap (λ (t : ℕ). bit_or (bit_or (bit_or (mask_l (map (λ (x : ℕ). eqb x 9) bytes)) t) c) d) b-is
    ∙ ap (λ (t : ℕ). bit_or (bit_or t c) d) (or_masks (λ (x : ℕ). eqb x 9) (λ (x : ℕ). eqb x 10) bytes)
    ∙ ap (λ (t : ℕ). bit_or (bit_or (mask_l (map (λ (x : ℕ). eqb x 9 || eqb x 10) bytes)) t) d) c-is
    ∙ ap (λ (t : ℕ). bit_or t d) (or_masks (λ (x : ℕ). eqb x 9 || eqb x 10) (λ (x : ℕ). eqb x 13) bytes)
    ∙ ap (bit_or (mask_l (map (λ (x : ℕ). (eqb x 9 || eqb x 10) || eqb x 13) bytes))) d-is
    ∙ or_masks (λ (x : ℕ). (eqb x 9 || eqb x 10) || eqb x 13) (λ (x : ℕ). eqb x 32) bytes
    ∙ same_masks (λ (x : ℕ). ((eqb x 9 || eqb x 10) || eqb x 13) || eqb x 32) is_white bytes (λ (x : ℕ). or_four (eqb x 9) (eqb x 10) (eqb x 13) (eqb x 32))

mask_fits : {X : Type 0} (p : X → Bool) (xs : List X) (n : ℕ) → length xs ≡ n → mask_l (map p xs) < 2 ^ n
mask_fits p [] zero size = omega arith
mask_fits p [] (suc n) size = absurd (omega arith)
mask_fits p (x ∷ xs) zero size = absurd (omega arith)
mask_fits p (x ∷ xs) (suc n) size = let rest = mask_fits p xs n (omega arith) in let less = one_if-small (p x) in omega arith

other_mask : {X : Type 0} (p : X → Bool) (xs : List X) (n : ℕ) → length xs ≡ n → 2 ^ n - 1 - mask_l (map p xs) ≡ mask_l (map (λ x. not (p x)) xs)
other_mask p [] zero size = refl
other_mask p [] (suc n) size = absurd (omega arith)
other_mask p (x ∷ xs) zero size = absurd (omega arith)
other_mask p (x ∷ xs) (suc n) size =
    let rest = other_mask p xs n (omega arith) in
    let turned = other_digit (p x) in
    let less = one_if-small (p x) in
    let fits : mask_l (map p xs) < 2 ^ n = mask_fits p xs n (omega arith) in
    omega arith

-- ---- what is counted of them

-- bytes that are not white
pub signs_counted : (mask : ℕ) (bytes : List ℕ) → length bytes ≡ 64 → mask ≡ mask_l (map is_white bytes) → count_ones (2 ^ 64 - 1 - mask) ≡ signs_in bytes
signs_counted mask bytes size is =
    ap (λ (t : ℕ). count_ones (2 ^ 64 - 1 - t)) is
    ∙ ap count_ones (other_mask is_white bytes 64 size)
    ∙ ones-mask_l (λ (b : ℕ). not (is_white b)) bytes

shifted : (m c n : ℕ) → c < 2 → (2 * m + c) % (2 * 2 ^ n) ≡ c + 2 * (m % 2 ^ n)
shifted m c n lt =
    let split : m / 2 ^ n * 2 ^ n + m % 2 ^ n ≡ m = div-add-mod' m (2 ^ n) in
    let less : m % 2 ^ n < 2 ^ n = mod_below m (2 ^ n) (pow_pos n) in
    let whole : 2 * m + c ≡ m / 2 ^ n * (2 * 2 ^ n) + (c + 2 * (m % 2 ^ n)) = omega arith in
    ap (λ (t : ℕ). t % (2 * 2 ^ n)) whole ∙ mod-mul-add (m / 2 ^ n) (2 * 2 ^ n) (c + 2 * (m % 2 ^ n)) (omega arith)

-- signs before which a white byte stands: the mask of white bytes moved on by one
word_starts : (bytes : List ℕ) (white : Bool) (n : ℕ) → length bytes ≡ n
    → ones (bit_and (2 ^ n - 1 - mask_l (map is_white bytes)) ((2 * mask_l (map is_white bytes) + cond white 1 0) % 2 ^ n)) ≡ words_in white bytes
word_starts [] white zero size = ones_none
word_starts [] white (suc n) size = absurd (omega arith)
word_starts (b ∷ bs) white zero size = absurd (omega arith)
word_starts (b ∷ bs) white (suc n) size =
    let m : ℕ = mask_l (map is_white bs) in
    let d : ℕ = cond (is_white b) 1 0 in
    let less = one_if-small (is_white b) in
    let fits : m < 2 ^ n = mask_fits is_white bs n (omega arith) in
    let not_white : 2 ^ suc n - 1 - (d + 2 * m) ≡ (1 - d) + 2 * (2 ^ n - 1 - m) = omega arith in
    let twice : 2 ^ suc n ≡ 2 * 2 ^ n = omega arith in
    let turn : d + 2 * m ≡ 2 * m + d = omega arith in
    let moved : (2 * (d + 2 * m) + cond white 1 0) % 2 ^ suc n ≡ cond white 1 0 + 2 * ((2 * m + d) % 2 ^ n) =
    ap (λ (t : ℕ). (2 * (d + 2 * m) + cond white 1 0) % t) twice ∙ ap (λ (t : ℕ). (2 * t + cond white 1 0) % (2 * 2 ^ n)) turn ∙ shifted (2 * m + d) (cond white 1 0) n (one_if-small white) in
    ap (λ (t : ℕ). ones (bit_and t ((2 * (d + 2 * m) + cond white 1 0) % 2 ^ suc n))) not_white
    ∙ ap (λ (t : ℕ). ones (bit_and ((1 - d) + 2 * (2 ^ n - 1 - m)) t)) moved
    ∙ ap ones (and_digits (1 - d) (cond white 1 0) (2 ^ n - 1 - m) ((2 * m + d) % 2 ^ n) (omega arith) (one_if-small white))
    ∙ ap (λ (t : ℕ). ones (t + 2 * bit_and (2 ^ n - 1 - m) ((2 * m + d) % 2 ^ n))) (starts_word (is_white b) white)
    ∙ ones_digit (cond (white && not (is_white b)) 1 0) (bit_and (2 ^ n - 1 - m) ((2 * m + d) % 2 ^ n)) (one_if-small (white && not (is_white b)))
    ∙ ap (λ (t : ℕ). cond (white && not (is_white b)) 1 0 + t) (word_starts bs (is_white b) n (omega arith))

pub words_counted : (mask : ℕ) (white : Bool) (bytes : List ℕ) → length bytes ≡ 64 → mask ≡ mask_l (map is_white bytes)
    → count_ones (bit_and (2 ^ 64 - 1 - mask) (bit_or (mask * 2 ^ 1 % 2 ^ 64) (cond white 1 0))) ≡ words_in white bytes
words_counted mask white bytes size is =
    ap (λ (t : ℕ). ones (bit_and (2 ^ 64 - 1 - mask) t)) (joined mask (cond white 1 0) (one_if-small white))
    ∙ ap (λ (t : ℕ). ones (bit_and (2 ^ 64 - 1 - t) ((2 * t + cond white 1 0) % 2 ^ 64))) is
    ∙ word_starts bytes white 64 size
  where
    joined : (mask c : ℕ) → c < 2 → bit_or (mask * 2 ^ 1 % 2 ^ 64) c ≡ (2 * mask + c) % 2 ^ 64
    joined mask c lt =
        let even : mask * 2 ^ 1 % 2 ^ 64 ≡ 0 + 2 * (mask % 2 ^ 63) = omega arith in
        let one : c ≡ c + 2 * 0 = omega arith in
        ap (λ (t : ℕ). bit_or t c) even
        ∙ ap (bit_or (0 + 2 * (mask % 2 ^ 63))) one
        ∙ or_digits 0 c (mask % 2 ^ 63) 0 (omega arith) lt
        ∙ omega (arith, or_zero_r (mask % 2 ^ 63))

-- whether the last byte is white
pub last_white : (mask : ℕ) (white : Bool) (bytes : List ℕ) → length bytes ≡ 64 → mask ≡ mask_l (map is_white bytes) → not (eqb (mask / 2 ^ 63) 0) ≡ ends_white white bytes
last_white mask white bytes size is =
    let fits : mask_l (map is_white bytes) < 2 ^ 64 = mask_fits is_white bytes 64 size in
    let bit : mask_l (map is_white bytes) / 2 ^ 63 ≡ mask_l (map is_white bytes) / 2 ^ 63 % 2 = omega arith in
    ap (λ (t : ℕ). not (eqb (t / 2 ^ 63) 0)) is
    ∙ ap (λ (t : ℕ). not (eqb t 0)) (bit ∙ bit_mask_l (map is_white bytes) 63)
    ∙ tested (get_or (map is_white bytes) 63 false)
    ∙ last bytes white 63 size
  where
    tested : (b : Bool) → not (eqb (cond b 1 0) 0) ≡ b
    tested true = refl
    tested false = refl

    last : (bytes : List ℕ) (white : Bool) (n : ℕ) → length bytes ≡ suc n → get_or (map is_white bytes) n false ≡ ends_white white bytes
    last [] white n size = absurd (omega arith)
    last (b ∷ []) white zero size = refl
    last (b ∷ []) white (suc n) size = absurd (omega arith)
    last (b ∷ c ∷ bs) white zero size = absurd (omega arith)
    last (b ∷ c ∷ bs) white (suc n) size = last (c ∷ bs) (is_white b) n (omega arith)

-- whether a byte is a #
pub hash_found : (mask : ℕ) (bytes : List ℕ) → mask ≡ mask_l (map (λ (x : ℕ). eqb x 35) bytes) → not (eqb mask 0) ≡ has_hash bytes
hash_found mask bytes is = ap (λ (t : ℕ). not (eqb t 0)) is ∙ found bytes
  where
    one : (b : Bool) (m : ℕ) → not (eqb (cond b 1 0 + 2 * m) 0) ≡ (b || not (eqb m 0))
    one true m = grind (arith, nat_tests)
    one false m = grind (arith, nat_tests)

    found : (bytes : List ℕ) → not (eqb (mask_l (map (λ (x : ℕ). eqb x 35) bytes)) 0) ≡ has_hash bytes
    found [] = refl
    found (b ∷ bs) = one (eqb b 35) (mask_l (map (λ (x : ℕ). eqb x 35) bs)) ∙ ap (λ (t : Bool). eqb b 35 || t) (found bs)
