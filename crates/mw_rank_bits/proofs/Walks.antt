-- Counters that walk down.
use Rattle.std.proofs.Common.{◌≡◌, ◌⊎◌, bit_and, nat_eq, ℕ, zero, suc, ◌+◌, ◌-◌, ◌*◌, ◌/◌, ◌%◌, ◌^◌, ◌<◌, ◌≤◌, cond, nat_lt, List, [], ◌∷◌, length, sum_by, refl, ap, subst, sym, arith, ◌∙◌, inl, inr}
use Rattle.std.specs.Int.{bit_at}
use Rattle.std.proofs.Math.Nat.{pow-suc, mul-le-mul_right}
use Rattle.std.proofs.lemmas.Bool.{cases_lt, cases_order, lt-ltb, le-ltb}
use Rattle.std.proofs.lemmas.Nat.Bits.{shr_and_one, bit_at-lt}
use Rattle.std.proofs.lemmas.List.Sums.{sum_by-cons}
use Rattle.std.proofs.lemmas.Nat.{mod-pow-add, mod-mul-add}
use Rattle.mw_bits.specs.mw_pixel_words.Packed.{bit_of}
use Rattle.mw_bits.proofs.mw_pixel_words.Bits.{bit_of-lt}
use Rattle.mw_rank_bits.specs.Numbers.{bits_at, number_at, HasAdded}
use Rattle.mw_rank_bits.specs.Walks.{is_below, AreMoves, WordsHaveRoom, HasColumn}

-- a digit as it is, and as what it lacks of 1
abbrev pub as_is : ℕ → ℕ
as_is a = a

abbrev pub as_lack : ℕ → ℕ
as_lack a = 1 - a

both_ways : (n : ℕ) (planes : List ℕ) (q : ℕ) → number_at as_is n planes q + number_at as_lack n planes q + 1 ≡ 2 ^ n
both_ways zero planes q = refl
both_ways (suc n) planes q =
    let b = bit_of planes (128 * n + q) in
    let one : b + (1 - b) ≡ 1 = let lt = bit_of-lt planes (128 * n + q) in omega arith in
    let times = ap (λ (t : ℕ). 2 ^ n * t) one in
    let before = both_ways n planes q in
    let twice = pow-suc 2 n in
    omega (arith, times, before, twice)

pub number_small : (n : ℕ) (planes : List ℕ) (q : ℕ) → number_at as_is n planes q < 2 ^ n
number_small n planes q = let all = both_ways n planes q in omega arith

-- what was added to what is lacking was taken away
taken : (n : ℕ) (more : ℕ → ℕ) (old new : List ℕ) (q : ℕ) → q < 128 → HasAdded as_lack n more old new → more q ≤ number_at as_is n old q → number_at as_is n new q + more q ≡ number_at as_is n old q
taken n more old new q lt added enough =
    let was = both_ways n old q in
    let now = both_ways n new q in
    let is = added q lt (omega arith) in
    omega arith

-- no more bits are set than places are looked at
pub bits_few : (cells places : List ℕ) (q : ℕ) → bits_at cells places q ≤ length places
bits_few cells [] q = omega arith
bits_few cells (p ∷ ps) q =
    let f : ℕ → ℕ = λ (s : ℕ). bit_of cells (s + q) in
    let lt = bit_of-lt cells (p + q) in
    let rest = bits_few cells ps q in
    let first = sum_by-cons f p ps in
    omega arith

pub sums_same : (f g : ℕ → ℕ) (xs : List ℕ) → ((s : ℕ) → f s ≡ g s) → sum_by f xs ≡ sum_by g xs
sums_same f g [] same = refl
sums_same f g (x ∷ xs) same = sum_by-cons f x xs ∙ ap (λ (t : ℕ). t + sum_by f xs) (same x) ∙ ap (λ (t : ℕ). g x + t) (sums_same f g xs same) ∙ sym (sum_by-cons g x xs)

-- one row further down
pub stepped : (n m start wide : ℕ) (cells seen entered left : List ℕ) (at q : ℕ) (old mid new : List ℕ) → m ≡ n → q < 128 → AreMoves wide seen entered left → start + length seen < 2 ^ n
    → HasAdded as_lack n (λ q. bits_at cells left (64 * at + q)) old mid → HasAdded as_is m (λ q. bits_at cells entered (64 * at + q)) mid new
    → number_at as_is n old q ≡ start + bits_at cells seen (64 * at + q) → number_at as_is n new q ≡ start + bits_at cells seen (64 * at + q + wide)
stepped n m start wide cells seen entered left at q old mid new m-is lt moves small fewer more_by is =
    let more = subst (λ (t : ℕ). HasAdded as_is t (λ q. bits_at cells entered (64 * at + q)) mid new) m-is more_by in
    let p = 64 * at + q in
    let f : ℕ → ℕ = λ (s : ℕ). bit_of cells (s + p) in
    let part = moves.part f in
    let balance = moves.balance f in
    let below : sum_by (λ (s : ℕ). f (s + wide)) seen ≡ bits_at cells seen (p + wide) = sums_same (λ (s : ℕ). f (s + wide)) (λ (s : ℕ). bit_of cells (s + (p + wide))) seen (λ s. ap (bit_of cells) (turn s wide p)) in
    let few = bits_few cells seen (p + wide) in
    let first = taken n (λ q. bits_at cells left (64 * at + q)) old mid q lt fewer (omega (arith, is, part)) in
    let second = more q lt (omega (arith, first, is, balance, below, few)) in
    omega (arith, first, second, is, balance, below)
  where
    turn : (s wide p : ℕ) → s + wide + p ≡ s + (p + wide)
    turn s wide p = omega arith

-- the highest digit tells whether a number is below half of what the digits hold
pub highest_digit : (n : ℕ) (planes : List ℕ) (q : ℕ) → 0 < n → 1 - bit_of planes (128 * (n - 1) + q) ≡ cond (nat_lt (number_at as_is n planes q) (2 ^ (n - 1))) 1 0
highest_digit zero planes q some = absurd (omega arith)
highest_digit (suc n) planes q some =
    let back : suc n - 1 ≡ n = omega arith in
    subst (λ (t : ℕ). 1 - bit_of planes (128 * t + q) ≡ cond (nat_lt (number_at as_is (suc n) planes q) (2 ^ t)) 1 0) (sym back)
    (by_digit (2 ^ n) (bit_of planes (128 * n + q)) (number_at as_is n planes q) (bit_of-lt planes (128 * n + q)) (number_small n planes q))
  where
    by_digit : (w b rest : ℕ) → b < 2 → rest < w → 1 - b ≡ cond (nat_lt (rest + w * b) w) 1 0
    by_digit w zero rest lt small = let is : rest + w * 0 < w = omega arith in rw (lt-ltb (rest + w * 0) w is) refl
    by_digit w (suc zero) rest lt small = let is : w ≤ rest + w * 1 = omega arith in rw (le-ltb (rest + w * 1) w is) refl
    by_digit w (suc (suc b)) rest lt small = absurd (omega arith)

-- a number by its digits
pub digits_are : (number n : ℕ) (planes : List ℕ) (q : ℕ) → ((i : ℕ) → i < n → bit_of planes (128 * i + q) ≡ bit_at number i) → number_at as_is n planes q ≡ number % 2 ^ n
digits_are number zero planes q digits = let e : number % 1 ≡ 0 = omega arith in sym e
digits_are number (suc n) planes q digits =
    let before = digits_are number n planes q (λ i lt. digits i (omega arith)) in
    let here = ap (λ (t : ℕ). 2 ^ n * t) (digits n (omega arith)) in
    let up : 1 + n ≡ suc n = omega arith in
    let split : number % 2 ^ suc n ≡ number / 2 ^ n % 2 ^ 1 * 2 ^ n + number % 2 ^ n = ap (λ (t : ℕ). number % 2 ^ t) (sym up) ∙ mod-pow-add number 1 n in
    omega (arith, before, here, split)

-- one row more of a column
pub column_more : (value : ℕ → ℕ → ℕ) (wide j y next : ℕ) (old mid new : List ℕ) → next ≡ y + 1 → j + 2 ≤ wide → ((q : ℕ) → q < 128 → bit_of new (64 * (y * wide + j) + q) ≡ value q y)
    → ((p : ℕ) → (p < 64 * (y * wide + j)) ⊎ (64 * (y * wide + j) + 128 ≤ p) → bit_of new p ≡ bit_of mid p) → HasColumn value wide j y old mid → HasColumn value wide j next old new
column_more value wide j y next old mid new next-is inside put others before = record {
  done = λ q r lt less. elim (cases_lt r y) [
    | inl above ↦
        let le : r + 1 ≤ y = omega arith in
        let rows = mul-le-mul_right wide le in
        others (64 * (r * wide + j) + q) (inl (omega (arith, rows))) ∙ before.done q r lt above
    | inr from ↦
        let here : r ≡ y = omega arith in
        subst (λ (t : ℕ). bit_of new (64 * (t * wide + j) + q) ≡ value q t) (sym here) (put q lt)
  ];
  others = λ p away. others p (away y (omega arith)) ∙ before.others p (λ r less. away r (omega arith));
}

-- one column more of a tile
pub columns_more : (value : ℕ → ℕ → ℕ) (column : ℕ → ℕ → ℕ) (pairs i high : ℕ) (old new : List ℕ) → i < pairs
    → ((q y : ℕ) → q < 128 → y < high → column q y ≡ value (128 * i + q) y)
    → HasColumn column (2 * pairs) (2 * i) high old new → ((x y : ℕ) → x < 128 * i → y < high → bit_of old (y * (64 * (2 * pairs)) + x) ≡ value x y)
    → (x y : ℕ) → x < 128 * (i + 1) → y < high → bit_of new (y * (64 * (2 * pairs)) + x) ≡ value x y
columns_more value column pairs i high old new inside same made before x y lt less = elim (cases_lt x (128 * i)) [
  | inl earlier ↦ made.others (y * (64 * (2 * pairs)) + x) (λ r row_less. elim (cases_order r y) [
    | inl here ↦ let rows = ap (λ (t : ℕ). t * (2 * pairs)) here in inl (omega (arith, rows))
    | inr (inl above) ↦ let le : r + 1 ≤ y = omega arith in let rows = mul-le-mul_right (2 * pairs) le in inr (omega (arith, rows))
    | inr (inr below) ↦ let le : y + 1 ≤ r = omega arith in let rows = mul-le-mul_right (2 * pairs) le in inl (omega (arith, rows))
  ]) ∙ before x y earlier less
  | inr from ↦
      let q = x - 128 * i in
      let place : y * (64 * (2 * pairs)) + x ≡ 64 * (y * (2 * pairs) + 2 * i) + q = omega arith in
      let back : 128 * i + q ≡ x = omega arith in
      ap (bit_of new) place ∙ made.done q y (omega arith) less ∙ same q y (omega arith) less ∙ ap (λ (t : ℕ). value t y) back
]

-- the digits of a number, in the first n planes
abbrev pub HasDigits : ℕ → ℕ → List ℕ → Type 0
HasDigits number n planes = (k q : ℕ) → k < n → q < 128 → bit_of planes (128 * k + q) ≡ bit_at number k

pub digits_more : (number i : ℕ) (old new lanes : List ℕ) → ((q : ℕ) → q < 128 → bit_of lanes q ≡ cond (nat_eq (bit_and (number / 2 ^ i) 1) 1) 1 0) → ((q : ℕ) → q < 128 → bit_of new (64 * (2 * i) + q) ≡ bit_of lanes q)
    → ((p : ℕ) → (p < 64 * (2 * i)) ⊎ (64 * (2 * i) + 128 ≤ p) → bit_of new p ≡ bit_of old p) → HasDigits number i old → HasDigits number (i + 1) new
digits_more number i old new lanes lanes-is put others before k q lt less = elim (cases_lt k i) [
  | inl earlier ↦ others (128 * k + q) (inl (omega arith)) ∙ before k q earlier less
  | inr from ↦
      let place : 128 * k + q ≡ 64 * (2 * i) + q = omega arith in
      let here : i ≡ k = omega arith in
      ap (bit_of new) place
      ∙ put q less
      ∙ lanes-is q less
      ∙ ap (λ (t : ℕ). cond (nat_eq t 1) 1 0) (shr_and_one number i)
      ∙ by_bit (bit_at number i) (bit_at-lt number i)
      ∙ ap (bit_at number) here
]
  where
    by_bit : (b : ℕ) → b < 2 → cond (nat_eq b 1) 1 0 ≡ b
    by_bit zero small = refl
    by_bit (suc zero) small = refl
    by_bit (suc (suc b)) small = absurd (omega arith)

pub filled : (number n : ℕ) (planes : List ℕ) (q : ℕ) → number < 2 ^ n → q < 128 → HasDigits number n planes → number_at as_is n planes q ≡ number
filled number n planes q small lt digits =
    let is = digits_are number n planes q (λ i less. digits i q less lt) in
    let same : number % 2 ^ n ≡ number = mod_small number (2 ^ n) small in
    is ∙ same
  where
    mod_small : (a b : ℕ) → a < b → a % b ≡ a
    mod_small a b less = let e : a ≡ 0 * b + a = omega arith in ap (λ (t : ℕ). t % b) e ∙ mod-mul-add 0 b a less

-- what is seen at a start
pub started : (n m start : ℕ) (cells seen : List ℕ) (j q : ℕ) (old new : List ℕ) → m ≡ n → q < 128 → start + length seen < 2 ^ n → number_at as_is n old q ≡ start → HasAdded as_is m (λ q. bits_at cells seen (64 * j + q)) old new
    → number_at as_is n new q ≡ start + bits_at cells seen (64 * j + q)
started n m start cells seen j q old new m-is lt small is added_by =
    let added = subst (λ (t : ℕ). HasAdded as_is t (λ q. bits_at cells seen (64 * j + q)) old new) m-is added_by in
    let few = bits_few cells seen (64 * j + q) in
    let made = added q lt (omega (arith, is, few)) in
    omega (arith, made, is)

-- no row of a column
pub column_none : (value : ℕ → ℕ → ℕ) (wide j : ℕ) (out : List ℕ) → HasColumn value wide j 0 out out
column_none value wide j out = record { done = λ q y lt none. absurd (omega arith); others = λ p away. refl }

-- places that can be read so many words on can be read fewer words on
pub room_less : (cells places : List ℕ) (more at : ℕ) → at ≤ more → WordsHaveRoom cells places more → WordsHaveRoom cells places at
room_less cells places more at le room = λ k lt. let there = room k lt in omega arith

-- whether a number is below half of what its digits hold
pub below_same : (n m start : ℕ) (cells seen planes : List ℕ) (p q : ℕ) → m ≡ n → number_at as_is n planes q ≡ start + bits_at cells seen p → cond (nat_lt (number_at as_is m planes q) (2 ^ (m - 1))) 1 0 ≡ is_below n start cells seen p
below_same n m start cells seen planes p q m-is is =
    ap (λ (t : ℕ). cond (nat_lt (number_at as_is t planes q) (2 ^ (t - 1))) 1 0) m-is ∙ ap (λ (t : ℕ). cond (nat_lt t (2 ^ (n - 1))) 1 0) is

-- moves of lists that are the same
pub moves_same : (wide : ℕ) (seen entered left s e l : List ℕ) → seen ≡ s → entered ≡ e → left ≡ l → AreMoves wide s e l → AreMoves wide seen entered left
moves_same wide seen entered left s e l seen-is entered-is left-is moves =
    subst (λ (t : List ℕ). AreMoves wide t entered left) (sym seen-is) (subst (λ (t : List ℕ). AreMoves wide s t left) (sym entered-is) (subst (λ (t : List ℕ). AreMoves wide s e t) (sym left-is) moves))

pub room_same : (cells places others : List ℕ) (at : ℕ) → places ≡ others → WordsHaveRoom cells others at → WordsHaveRoom cells places at
room_same cells places others at is room = subst (λ (t : List ℕ). WordsHaveRoom cells t at) (sym is) room
