-- Levels of a set of words, and how many are below one.
use Rattle.std.proofs.Common.{◌≡◌, ℕ, zero, suc, ◌+◌, ◌-◌, ◌*◌, ◌/◌, ◌%◌, ◌^◌, ◌<◌, ◌≤◌, max, List, length, get_or, set, bit_or, bit_and, inl, inr, refl, ap, sym, arith, subst, ◌∙◌, mod-eq_of_lt}
use Rattle.std.specs.Int.{bit_at}
use Rattle.std.proofs.lemmas.Bool.{cases_eq, cases_lt}
use Rattle.std.proofs.lemmas.List.{get_or-set_same, get_or-set_other, get_or_past}
use Rattle.std.proofs.lemmas.Nat.{ones-le, ones_cat, mod-pow-add, mod_below, pow_pos, and_mask, one_shl}
use Rattle.std.proofs.lemmas.Nat.Bits.{bit_at-lt, bit_at-zero, bit_at_or, bit_at-pow_same}
use Rattle.mw_rank_numbers.specs.LevelSets.{bit_in, below_in, IsSummed}
use lib.Count.{ones}

-- the word of a level with its bit set
pub marked_here : (words new : List ℕ) (v : ℕ) → v / 64 < length words → new ≡ set words (v / 64) (bit_or (get_or words (v / 64) 0) (2 ^ (v % 64))) → bit_in new v ≡ 1
marked_here words new v inside is =
    let word = get_or words (v / 64) 0 in
    let here : get_or new (v / 64) 0 ≡ bit_or word (2 ^ (v % 64)) = ap (λ (l : List ℕ). get_or l (v / 64) 0) is ∙ get_or-set_same words (v / 64) (bit_or word (2 ^ (v % 64))) 0 inside in
    ap (λ (n : ℕ). bit_at n (v % 64)) here
    ∙ bit_at_or word (2 ^ (v % 64)) (v % 64)
    ∙ ap (max (bit_at word (v % 64))) (bit_at-pow_same (v % 64))
    ∙ one_of (bit_at word (v % 64)) (bit_at-lt word (v % 64))
  where
    one_of : (b : ℕ) → b < 2 → max b 1 ≡ 1
    one_of b lt = omega arith

pub kept_there : (words new : List ℕ) (s v : ℕ) → s / 64 < length words → new ≡ set words (s / 64) (bit_or (get_or words (s / 64) 0) (2 ^ (s % 64))) → bit_in words v ≡ 1 → bit_in new v ≡ 1
kept_there words new s v inside is had =
    let word = get_or words (s / 64) 0 in
    let bits = bit_or word (2 ^ (s % 64)) in
    elim (cases_eq (v / 64) (s / 64)) [
      | inl same ↦
          let here : get_or new (v / 64) 0 ≡ bits = ap (λ (l : List ℕ). get_or l (v / 64) 0) is ∙ ap (λ (n : ℕ). get_or (set words (s / 64) bits) n 0) same ∙ get_or-set_same words (s / 64) bits 0 inside in
          let old : bit_at word (v % 64) ≡ 1 = ap (λ (n : ℕ). bit_at (get_or words n 0) (v % 64)) (sym same) ∙ had in
          ap (λ (n : ℕ). bit_at n (v % 64)) here
          ∙ bit_at_or word (2 ^ (s % 64)) (v % 64)
          ∙ ap (λ (b : ℕ). max b (bit_at (2 ^ (s % 64)) (v % 64))) old
          ∙ one_of (bit_at (2 ^ (s % 64)) (v % 64)) (bit_at-lt (2 ^ (s % 64)) (v % 64))
      | inr other ↦ ap (λ (n : ℕ). bit_at n (v % 64)) (ap (λ (l : List ℕ). get_or l (v / 64) 0) is ∙ get_or-set_other words (s / 64) (v / 64) bits 0 other) ∙ had
    ]
  where
    one_of : (b : ℕ) → b < 2 → max 1 b ≡ 1
    one_of b lt = omega arith

pub bit_in-lt : (words : List ℕ) (v : ℕ) → bit_in words v < 2
bit_in-lt words v = bit_at-lt (get_or words (v / 64) 0) (v % 64)

pub below_rises : (words : List ℕ) (s n : ℕ) → below_in words s ≤ below_in words (s + n)
below_rises words s zero = let same : below_in words (s + 0) ≡ below_in words s = ap (below_in words) (let e : s + 0 ≡ s = omega arith in e) in omega (arith, same)
below_rises words s (suc n) =
    let next : below_in words (s + suc n) ≡ below_in words (s + n) + bit_in words (s + n) = ap (below_in words) (let e : s + suc n ≡ suc (s + n) = omega arith in e) in
    omega (arith, next, below_rises words s n)

-- fewer levels are below a level of the set than below a greater level
pub below_less : (words : List ℕ) (s t : ℕ) → bit_in words s ≡ 1 → s < t → below_in words s < below_in words t
below_less words s t has lt =
    let next : below_in words (suc s) ≡ below_in words s + bit_in words s = refl in
    let all : below_in words (suc s + (t - suc s)) ≡ below_in words t = ap (below_in words) (let e : suc s + (t - suc s) ≡ t = omega arith in e) in
    omega (arith, next, has, all, below_rises words (suc s) (t - suc s))

pub below_small : (words : List ℕ) (v : ℕ) → below_in words v ≤ v
below_small words zero = omega arith
below_small words (suc v) = omega (arith, below_small words v, bit_in-lt words v)

ones_of_bit : (b : ℕ) → b < 2 → ones b ≡ b
unfolding ones
ones_of_bit zero lt = refl
ones_of_bit (suc zero) lt = refl
ones_of_bit (suc (suc b)) lt = absurd (omega arith)

-- the levels below one of a word are those below the word, and the lower ones of it
pub below_word : (words : List ℕ) (i k : ℕ) → k ≤ 64 → below_in words (64 * i + k) ≡ below_in words (64 * i) + ones (get_or words i 0 % 2 ^ k)
below_word words i zero le =
    let none : ones (get_or words i 0 % 2 ^ 0) ≤ 0 = ones-le 0 (get_or words i 0 % 2 ^ 0) (mod_below (get_or words i 0) (2 ^ 0) (omega arith)) in
    ap (below_in words) (let e : 64 * i + 0 ≡ 64 * i = omega arith in e) ∙ (let e : below_in words (64 * i) ≡ below_in words (64 * i) + ones (get_or words i 0 % 2 ^ 0) = omega (arith, none) in e)
below_word words i (suc k) le =
    let word = get_or words i 0 in
    let bit = bit_at word k in
    let here : bit_in words (64 * i + k) ≡ bit =
    ap (λ (n : ℕ). bit_at (get_or words n 0) ((64 * i + k) % 64)) (let e : (64 * i + k) / 64 ≡ i = omega arith in e) ∙ ap (bit_at word) (let e : (64 * i + k) % 64 ≡ k = omega arith in e) in
    let split : word % 2 ^ suc k ≡ bit * 2 ^ k + word % 2 ^ k = ap (λ (n : ℕ). word % 2 ^ n) (let e : suc k ≡ 1 + k = omega arith in e) ∙ mod-pow-add word 1 k in
    let more : ones (word % 2 ^ suc k) ≡ ones bit + ones (word % 2 ^ k) = ap ones split ∙ ones_cat k bit (word % 2 ^ k) (mod_below word (2 ^ k) (pow_pos k)) in
    let next : below_in words (64 * i + suc k) ≡ below_in words (64 * i + k) + bit_in words (64 * i + k) = ap (below_in words) (let e : 64 * i + suc k ≡ suc (64 * i + k) = omega arith in e) in
    omega (arith, next, here, more, ones_of_bit bit (bit_at-lt word k), below_word words i k (omega arith))

-- the levels of one word more
pub below_more : (words : List ℕ) (i : ℕ) → get_or words i 0 < 2 ^ 64 → below_in words (64 * (i + 1)) ≡ below_in words (64 * i) + ones (get_or words i 0)
below_more words i fits =
    ap (below_in words) (let e : 64 * (i + 1) ≡ 64 * i + 64 = omega arith in e) ∙ below_word words i 64 (omega arith) ∙ ap (λ (n : ℕ). below_in words (64 * i) + ones n) (whole (get_or words i 0) (2 ^ 64) fits)
  where
    whole : (n m : ℕ) → n < m → n % m ≡ n
    whole n m lt = mod-eq_of_lt lt

-- the number of a level, as it is counted
pub number_is : (words before : List ℕ) (count s n : ℕ) → IsSummed words before count → s < 65536 → n ≡ get_or before (s / 64) 0 + ones (bit_and (get_or words (s / 64) 0) (2 ^ (s % 64) - 1)) → n ≡ below_in words s
number_is words before count s n summed small is =
    let i = s / 64 in
    is
    ∙ ap (λ (m : ℕ). get_or before i 0 + ones m) (and_mask (get_or words i 0) (s % 64))
    ∙ ap (λ (m : ℕ). m + ones (get_or words i 0 % 2 ^ (s % 64))) (summed.before i (omega arith))
    ∙ sym (below_word words i (s % 64) (omega arith))
    ∙ ap (below_in words) (let e : 64 * i + s % 64 ≡ s = omega arith in e)

-- a number is below the count
pub number_within : (words before : List ℕ) (count s : ℕ) → IsSummed words before count → s < 65536 → bit_in words s ≡ 1 → below_in words s < count
number_within words before count s summed small has = subst (λ (n : ℕ). below_in words s < n) (sym summed.all) (below_less words s 65536 has small)

pub number_inside : (words before : List ℕ) (count s n size : ℕ) → IsSummed words before count → size ≡ count → s < 65536 → bit_in words s ≡ 1 → n ≡ below_in words s → n < size
number_inside words before count s n size summed size-is small has n-is = let lt = number_within words before count s summed small has in omega (arith, lt, size-is, n-is)

-- the code's mask of the levels below one in its word
pub number_coded : (words before : List ℕ) (count s : ℕ) → IsSummed words before count → s < 65536 → get_or before (s / 64) 0 + ones (bit_and (get_or words (s / 64) 0) (1 * 2 ^ (s % 64) % 18446744073709551616 - 1)) ≡ below_in words s
number_coded words before count s summed small =
    number_is words before count s _ summed small (ap (λ (m : ℕ). get_or before (s / 64) 0 + ones (bit_and (get_or words (s / 64) 0) (m - 1))) (one_shl (s % 64) 64 (omega arith)))

pub number_small : (words before : List ℕ) (count s : ℕ) → IsSummed words before count → s < 65536 → get_or before (s / 64) 0 + ones (bit_and (get_or words (s / 64) 0) (1 * 2 ^ (s % 64) % 18446744073709551616 - 1)) < 65536
number_small words before count s summed small = let is = number_coded words before count s summed small in let le = below_small words s in omega (arith, is, le, small)

-- a set of 1,024 words has no level past 16 bits
pub bit_small : (words : List ℕ) (s : ℕ) → length words ≡ 1024 → bit_in words s ≡ 1 → s < 65536
bit_small words s size has =
    elim (cases_lt s 65536) [
      | inl small ↦ small
      | inr past ↦ absurd (let none : bit_in words s ≡ 0 = ap (λ (n : ℕ). bit_at n (s % 64)) (get_or_past words (s / 64) 0 (omega (arith, size, past))) ∙ bit_at-zero (s % 64) in omega (arith, none, has))
    ]

pub some_levels : (words before : List ℕ) (count : ℕ) → IsSummed words before count → bit_in words 0 ≡ 1 → 0 < count
some_levels words before count summed lowest = number_within words before count 0 summed (omega arith) lowest
