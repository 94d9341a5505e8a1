-- Where a row of words changes, by the bits that tell of it.
use Rattle.std.proofs.Common.{◌≡◌, ◌≢◌, ℕ, zero, suc, ◌+◌, ◌-◌, ◌*◌, ◌/◌, ◌%◌, ◌^◌, ◌<◌, ◌≤◌, min, max, List, length, get_or, bit_and, bit_or, bit_xor, w64, refl, ap, sym, subst, arith, ◌∙◌, inl, inr}
use Rattle.std.specs.Int.{bit_at, trailing_zeros}
use Rattle.std.proofs.lemmas.Bool.{cases_lt}
use Rattle.std.proofs.lemmas.Nat.Bits.{bit_at_lowest, bit_at-suc, bit_at-zero, bit_at_and, bit_at_or, bit_at_xor, bit_at_above, bit_at-trailing_zeros}
use Rattle.mw_pixel.specs.mw_pixel_words.Packed.{bit_of}
use Rattle.mw_pixel.proofs.mw_pixel_words.Bits.{bit_of_word, bit_of-lt, bit_of_past}
use Rattle.mw_pixel.proofs.mw_pixel_words.Funnels.{shl_low, shl_high}
use Rattle.mw_geodesic_runs.specs.Runs.{left_of}
use Rattle.mw_geodesic_runs.specs.Changes.{change_at, IsLowestOne, HasBitsAbove, AreChangesBehind, IsNextChange}
use Rattle.mw_geodesic_runs.proofs.Tallies.{left_is, left_none}

-- ---- a number without its lowest one

one_less_at : (t n : ℕ) → bit_at n t ≡ 1 → ((j : ℕ) → j < t → bit_at n j ≡ 0) → bit_at (n - 1) t ≡ 0
one_less_at zero n one none =
    let odd : n % 2 ≡ 1 = sym (bit_at_lowest n) ∙ one in
    let even : (n - 1) % 2 ≡ 0 = omega arith in
    bit_at_lowest (n - 1) ∙ even
one_less_at (suc t) n one none =
    let even : n % 2 ≡ 0 = sym (bit_at_lowest n) ∙ none 0 (omega arith) in
    let half : (n - 1) / 2 ≡ n / 2 - 1 = omega arith in
    bit_at-suc (n - 1) t ∙ ap (λ (m : ℕ). bit_at m t) half ∙ one_less_at t (n / 2) (sym (bit_at-suc n t) ∙ one) (λ j lt. sym (bit_at-suc n j) ∙ none (suc j) (omega arith))

one_less_above : (t n i : ℕ) → bit_at n t ≡ 1 → ((j : ℕ) → j < t → bit_at n j ≡ 0) → t < i → bit_at (n - 1) i ≡ bit_at n i
one_less_above t n zero one none lt = absurd (omega arith)
one_less_above zero n (suc i) one none lt =
    let odd : n % 2 ≡ 1 = sym (bit_at_lowest n) ∙ one in
    let half : (n - 1) / 2 ≡ n / 2 = omega arith in
    bit_at-suc (n - 1) i ∙ ap (λ (m : ℕ). bit_at m i) half ∙ sym (bit_at-suc n i)
one_less_above (suc t) n (suc i) one none lt =
    let even : n % 2 ≡ 0 = sym (bit_at_lowest n) ∙ none 0 (omega arith) in
    let half : (n - 1) / 2 ≡ n / 2 - 1 = omega arith in
    bit_at-suc (n - 1) i ∙ ap (λ (m : ℕ). bit_at m i) half
    ∙ one_less_above t (n / 2) i (sym (bit_at-suc n t) ∙ one) (λ j less. sym (bit_at-suc n j) ∙ none (suc j) (omega arith)) (omega arith)
    ∙ sym (bit_at-suc n i)

pub without_lowest : (n t : ℕ) → IsLowestOne n t → HasBitsAbove n t (bit_and n (n - 1))
without_lowest n t low = record {
  upto = λ i le. elim (cases_lt i t) [
    | inl less ↦ first_none (bit_at (bit_and n (n - 1)) i) (bit_at n i) (bit_at (n - 1) i) (bit_at_and n (n - 1) i) (low.none i less)
    | inr past ↦
        let same : i ≡ t = omega arith in
        ap (bit_at (bit_and n (n - 1))) same
        ∙ second_none (bit_at (bit_and n (n - 1)) t) (bit_at n t) (bit_at (n - 1) t) (bit_at_and n (n - 1) t) (one_less_at t n low.one low.none)
  ];
  above = λ i lt. both_same (bit_at (bit_and n (n - 1)) i) (bit_at n i) (bit_at (n - 1) i) (bit_at_and n (n - 1) i) (one_less_above t n i low.one low.none lt);
}
  where
    first_none : (r a b : ℕ) → r ≡ min a b → a ≡ 0 → r ≡ 0
    first_none r a b e f = omega arith

    second_none : (r a b : ℕ) → r ≡ min a b → b ≡ 0 → r ≡ 0
    second_none r a b e f = omega arith

    both_same : (r a b : ℕ) → r ≡ min a b → b ≡ a → r ≡ a
    both_same r a b e f = omega arith

pub not_zero : (n : ℕ) → n ≢ 0 → 0 < n
not_zero n ne = elim (cases_lt 0 n) [ inl lt ↦ lt | inr le ↦ absurd (ne (omega arith)) ]

pub positive : (n t : ℕ) → bit_at n t ≡ 1 → 0 < n
positive n t one = elim (cases_lt 0 n) [
  | inl lt ↦ lt
  | inr le ↦
      let none : n ≡ 0 = omega arith in
      let zero_here : bit_at n t ≡ 0 = ap (λ (m : ℕ). bit_at m t) none ∙ bit_at-zero t in
      absurd (omega arith)
]

-- the lowest one of a number of 64 bits is where its zeros end
pub record EndsItsZeros (n t : ℕ) : Type 0 where
  pub within : t < 64
  pub lowest : IsLowestOne n t

pub trailing_lowest : (n : ℕ) → 0 < n → n < 2 ^ 64 → EndsItsZeros n (trailing_zeros w64 n)
trailing_lowest n some small =
    let first = bit_at-trailing_zeros w64 n some (omega arith) in
    let t = trailing_zeros w64 n in
    let one : bit_at n (trailing_zeros w64 n) ≡ 1 = first.1 in
    record {
      within = elim (cases_lt t 64) [
        | inl less ↦ less
        | inr past ↦ let none = bit_at_above n 64 t small past in absurd (omega arith)
      ];
      lowest = record { one = one; none = λ j lt. first.2 j lt };
    }

-- ---- the changes of a word

pub first_change : (word last : ℕ) → last < 2 → bit_at (bit_xor word (bit_or (word * 2 ^ 1 % 2 ^ 64) last)) 0 ≡ (bit_at word 0 + last) % 2
first_change word last small =
    let m = bit_or (word * 2 ^ 1 % 2 ^ 64) last in
    let low : bit_at last 0 ≡ last = bit_at_lowest last ∙ bit last small in
    let none : bit_at (word * 2 ^ 1 % 2 ^ 64) 0 ≡ 0 = shl_low word 1 0 (omega arith) (omega arith) in
    let before : bit_at m 0 ≡ last = joined (bit_at m 0) (bit_at (word * 2 ^ 1 % 2 ^ 64) 0) (bit_at last 0) last (bit_at_or (word * 2 ^ 1 % 2 ^ 64) last 0) none low in
    bit_at_xor word m 0 ∙ ap (λ (t : ℕ). (bit_at word 0 + t) % 2) before
  where
    bit : (b : ℕ) → b < 2 → b % 2 ≡ b
    bit b lt = omega arith

    joined : (r s l b : ℕ) → r ≡ max s l → s ≡ 0 → l ≡ b → r ≡ b
    joined r s l b e f g = omega arith

pub later_change : (word last i : ℕ) → last < 2 → i + 1 < 64 → bit_at (bit_xor word (bit_or (word * 2 ^ 1 % 2 ^ 64) last)) (i + 1) ≡ (bit_at word (i + 1) + bit_at word i) % 2
later_change word last i small lt =
    let m = bit_or (word * 2 ^ 1 % 2 ^ 64) last in
    let none : bit_at last (i + 1) ≡ 0 = bit_at_above last 1 (i + 1) small (omega arith) in
    let back : i + 1 - 1 ≡ i = omega arith in
    let here : bit_at (word * 2 ^ 1 % 2 ^ 64) (i + 1) ≡ bit_at word i = shl_high word 1 (i + 1) (omega arith) lt ∙ ap (bit_at word) back in
    let before : bit_at m (i + 1) ≡ bit_at word i = joined (bit_at m (i + 1)) (bit_at (word * 2 ^ 1 % 2 ^ 64) (i + 1)) (bit_at last (i + 1)) (bit_at word i) (bit_at_or (word * 2 ^ 1 % 2 ^ 64) last (i + 1)) here none in
    bit_at_xor word m (i + 1) ∙ ap (λ (t : ℕ). (bit_at word (i + 1) + t) % 2) before
  where
    joined : (r s l b : ℕ) → r ≡ max s l → s ≡ b → l ≡ 0 → r ≡ b
    joined r s l b e f g = omega arith

same_sum : (r a b a' b' : ℕ) → r ≡ (a + b) % 2 → a' ≡ a → b' ≡ b → r ≡ (a' + b') % 2
same_sum r a b a' b' e f g = omega arith

pub changes_are : (words : List ℕ) (k last bits : ℕ) → last ≡ left_of (bit_of words) (64 * k) → bit_at bits 0 ≡ (bit_at (get_or words k 0) 0 + last) % 2
    → ((i : ℕ) → i + 1 < 64 → bit_at bits (i + 1) ≡ (bit_at (get_or words k 0) (i + 1) + bit_at (get_or words k 0) i) % 2) → (i : ℕ) → i < 64 → bit_at bits i ≡ change_at (bit_of words) (64 * k + i)
changes_are words k last bits is first others zero lt =
    let start : 64 * k + zero ≡ 64 * k = omega arith in
    same_sum (bit_at bits zero) (bit_at (get_or words k 0) zero) last (bit_of words (64 * k + zero)) (left_of (bit_of words) (64 * k + zero)) first (bit_of_word words k zero (64 * k + zero) (omega arith) refl)
    (ap (left_of (bit_of words)) start ∙ sym is)
changes_are words k last bits is first others (suc i) lt =
    let one : suc i ≡ i + 1 = omega arith in
    let w = get_or words k 0 in
    let left = left_is (bit_of words) (64 * k + suc i) (64 * k + i) (omega arith) ∙ bit_of_word words k i (64 * k + i) (omega arith) refl in
    let bits_are : bit_at bits (suc i) ≡ (bit_at (get_or words k 0) (suc i) + bit_at (get_or words k 0) i) % 2 =
    subst (λ (t : ℕ). bit_at bits t ≡ (bit_at (get_or words k 0) t + bit_at (get_or words k 0) i) % 2) (sym one) (others i (omega arith)) in
    same_sum (bit_at bits (suc i)) (bit_at w (suc i)) (bit_at w i) (bit_of words (64 * k + suc i)) (left_of (bit_of words) (64 * k + suc i)) bits_are (bit_of_word words k (suc i) (64 * k + suc i) lt refl) left

-- ---- the next change

both_none : (a b : ℕ) → a ≡ 0 → b ≡ 0 → (a + b) % 2 ≡ 0
both_none a b e f = omega arith

-- behind the words there is none
change_past : (words : List ℕ) (x : ℕ) → 64 * length words < x → change_at (bit_of words) x ≡ 0
change_past words zero lt = absurd (omega arith)
change_past words (suc x) lt = both_none (bit_of words (suc x)) (bit_of words x) (bit_of_past words (suc x) (omega arith)) (bit_of_past words x (omega arith))

pub none_behind : (words : List ℕ) (at k : ℕ) → 64 * length words ≤ at → AreChangesBehind words at k 0
none_behind words at k end = record {
  past = λ i lt le. bit_at-zero i;
  ahead = λ i lt less. bit_at-zero i ∙ sym (change_past words (64 * k + i) (omega arith));
}

-- those that are left behind the lowest one
pub behind_lowest : (words : List ℕ) (place k t bits rest : ℕ) → place ≡ 64 * k + t → HasBitsAbove bits t rest → ((i : ℕ) → i < 64 → t < i → bit_at bits i ≡ change_at (bit_of words) (64 * k + i)) → AreChangesBehind words place k rest
behind_lowest words place k t bits rest is above changes = record {
  past = λ i lt le. above.upto i (omega arith);
  ahead = λ i lt less. above.above i (omega arith) ∙ changes i lt (omega arith);
}

-- before the first place that is set there is none
pub first_lowest : (words : List ℕ) (at k bits : ℕ) → k ≡ at / 64 → ((x : ℕ) → x < at → bit_of words x ≡ 0) → bit_of words at ≡ 1 → ((i : ℕ) → i < 64 → bit_at bits i ≡ change_at (bit_of words) (64 * k + i)) → IsLowestOne bits (at % 64)
first_lowest words at k bits is zeros one changes =
    let here : 64 * k + at % 64 ≡ at = omega arith in
    let left : left_of (bit_of words) at ≡ 0 = left_none (bit_of words) at zeros in
    record {
      one = changes (at % 64) (omega arith) ∙ ap (change_at (bit_of words)) here ∙ odd (bit_of words at) (left_of (bit_of words) at) one left;
      none = λ j lt.
          changes j (omega arith)
          ∙ both_none (bit_of words (64 * k + j)) (left_of (bit_of words) (64 * k + j)) (zeros (64 * k + j) (omega arith)) (left_none (bit_of words) (64 * k + j) (λ u less. zeros u (omega arith)));
    }
  where
    odd : (a b : ℕ) → a ≡ 1 → b ≡ 0 → (a + b) % 2 ≡ 1
    odd a b e f = omega arith

pub first_behind : (words : List ℕ) (at k bits rest : ℕ) → k ≡ at / 64 → HasBitsAbove bits (at % 64) rest → ((i : ℕ) → i < 64 → bit_at bits i ≡ change_at (bit_of words) (64 * k + i)) → AreChangesBehind words at k rest
first_behind words at k bits rest is above changes = behind_lowest words at k (at % 64) bits rest (omega arith) above (λ i lt less. changes i lt)

-- what is passed on the way to the next change
pub record Passed (words : List ℕ) (at k bits : ℕ) : Type 0 where
  pub within : k ≤ length words
  pub low : at < 64 * k + 64
  pub none : (x : ℕ) → at < x → x < 64 * k → change_at (bit_of words) x ≡ 0
  pub are : AreChangesBehind words at k bits

pub passing_begins : (words : List ℕ) (at k bits : ℕ) → k ≡ at / 64 → at ≤ 64 * length words → AreChangesBehind words at k bits → Passed words at k bits
passing_begins words at k bits is within are = record { within = omega arith; low = omega arith; none = λ x from to. absurd (omega arith); are = are }

-- a word without changes
passed_word : (words : List ℕ) (at k bits x : ℕ) → bits ≡ 0 → Passed words at k bits → at < x → x < 64 * k + 64 → change_at (bit_of words) x ≡ 0
passed_word words at k bits x zero_bits was from to = elim (cases_lt x (64 * k)) [
  | inl before ↦ was.none x from before
  | inr here ↦
      let i = x - 64 * k in
      let is : 64 * k + i ≡ x = omega arith in
      sym (ap (change_at (bit_of words)) is) ∙ sym (was.are.ahead i (omega arith) (omega arith)) ∙ ap (λ (b : ℕ). bit_at b i) zero_bits ∙ bit_at-zero i
]

pub passing_on : (words : List ℕ) (at k m bits next : ℕ) → m ≡ k + 1 → m < length words → bits ≡ 0 → ((i : ℕ) → i < 64 → bit_at next i ≡ change_at (bit_of words) (64 * m + i)) → Passed words at k bits → Passed words at m next
passing_on words at k m bits next is lt none changes was =
    let low = was.low in
    record {
      within = omega arith;
      low = omega arith;
      none = λ x from to. passed_word words at k bits x none was from (omega arith);
      are = record { past = λ i less le. absurd (omega arith); ahead = λ i less from. changes i less };
    }

pub no_more : (words : List ℕ) (at k bits : ℕ) → at ≤ 64 * length words → length words ≤ k + 1 → bits ≡ 0 → Passed words at k bits → IsNextChange words at (64 * length words)
no_more words at k bits within end none was = record {
  from = within;
  within = omega arith;
  none = λ x from to. passed_word words at k bits x none was from (omega arith);
  later = λ lt. absurd (omega arith);
  found = λ lt. absurd (omega arith);
}

pub found_next : (words : List ℕ) (at k bits t place : ℕ) → place ≡ 64 * k + t → t < 64 → IsLowestOne bits t → Passed words at k bits → IsNextChange words at place
found_next words at k bits t place is lt lowest was =
    let one = lowest.one in
    let later : at < place = elim (cases_lt at place) [
      | inl less ↦ less
      | inr le ↦ let none = was.are.past t lt (omega arith) in absurd (omega arith)
    ] in
    let change : change_at (bit_of words) place ≡ 1 = ap (change_at (bit_of words)) is ∙ sym (was.are.ahead t lt (omega arith)) ∙ one in
    record {
      from = omega arith;
      within = elim (cases_lt (64 * length words) place) [
        | inr le ↦ le
        | inl past ↦ let none = change_past words place past in absurd (omega arith)
      ];
      none = λ x from to. elim (cases_lt x (64 * k)) [
        | inl before ↦ was.none x from before
        | inr here ↦
            let i = x - 64 * k in
            let at_x : 64 * k + i ≡ x = omega arith in
            sym (ap (change_at (bit_of words)) at_x) ∙ sym (was.are.ahead i (omega arith) (omega arith)) ∙ lowest.none i (omega arith)
      ];
      later = λ less. later;
      found = λ less. change;
    }

pub left_behind : (words : List ℕ) (at k bits t place rest : ℕ) → place ≡ 64 * k + t → t < 64 → IsLowestOne bits t → HasBitsAbove bits t rest → Passed words at k bits → AreChangesBehind words place (place / 64) rest
left_behind words at k bits t place rest is lt lowest above was =
    let word : k ≡ place / 64 = omega arith in
    let later = (found_next words at k bits t place is lt lowest was) in
    let from = later.from in
    subst (λ (m : ℕ). AreChangesBehind words place m rest) word
    (behind_lowest words place k t bits rest is above (λ i less more. was.are.ahead i less (omega arith)))

-- ---- from change to change

as_before : (a b : ℕ) → a < 2 → b < 2 → (a + b) % 2 ≡ 0 → a ≡ b
as_before a b s t e = omega arith

turned_over : (a b : ℕ) → a < 2 → b < 2 → (a + b) % 2 ≡ 1 → a ≡ 1 - b
turned_over a b s t e = omega arith

-- without a change all is as it was
unchanged : (words : List ℕ) (a x : ℕ) → a ≤ x → ((u : ℕ) → a < u → u ≤ x → change_at (bit_of words) u ≡ 0) → bit_of words x ≡ bit_of words a
unchanged words a zero le none = let same : zero ≡ a = omega arith in ap (bit_of words) same
unchanged words a (suc x) le none = elim (cases_lt a (suc x)) [
  | inl less ↦
      as_before (bit_of words (suc x)) (bit_of words x) (bit_of-lt words (suc x)) (bit_of-lt words x) (none (suc x) less (omega arith))
      ∙ unchanged words a x (omega arith) (λ u from to. none u from (omega arith))
  | inr past ↦ let same : suc x ≡ a = omega arith in ap (bit_of words) same
]

turned : (words : List ℕ) (a x : ℕ) → a < x → ((u : ℕ) → a < u → u < x → change_at (bit_of words) u ≡ 0) → change_at (bit_of words) x ≡ 1 → bit_of words x ≡ 1 - bit_of words a
turned words a zero lt none change = absurd (omega arith)
turned words a (suc x) lt none change =
    turned_over (bit_of words (suc x)) (bit_of words x) (bit_of-lt words (suc x)) (bit_of-lt words x) change
    ∙ ap (λ (t : ℕ). 1 - t) (unchanged words a x (omega arith) (λ u from to. none u from (omega arith)))

-- up to the next change the bits are as at the place, and there they are not
pub record IsStretch (words : List ℕ) (at place b : ℕ) : Type 0 where
  pub same : (u : ℕ) → at ≤ u → u < place → bit_of words u ≡ b
  pub other : place < 64 * length words → bit_of words place ≡ 1 - b

pub stretch : (words : List ℕ) (at place b : ℕ) → bit_of words at ≡ b → IsNextChange words at place → IsStretch words at place b
stretch words at place b is next = record {
  same = λ u from to. unchanged words at u from (λ v low high. next.none v low (omega arith)) ∙ is;
  other = λ lt. turned words at place (next.later lt) next.none (next.found lt) ∙ ap (λ (t : ℕ). 1 - t) is;
}
