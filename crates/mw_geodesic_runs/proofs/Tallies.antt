-- How many runs begin, counted by words.
use Rattle.std.proofs.Common.{◌≡◌, ℕ, zero, suc, ◌+◌, ◌-◌, ◌*◌, ◌/◌, ◌%◌, ◌^◌, ◌<◌, ◌≤◌, min, max, List, get_or, bit_and, bit_or, w64, refl, ap, sym, subst, arith, ◌∙◌, inl, inr}
use Rattle.std.specs.Int.{bit_at, bit_not}
use Rattle.std.proofs.lemmas.Bool.{cases_lt}
use Rattle.std.proofs.lemmas.Nat.{ones_cat, shr_split, shr_below, mod_below, pow_pos, or_lt}
use Rattle.std.proofs.lemmas.Nat.Bits.{bit_at_lowest, bit_at_and, bit_at_or, bit_at_not, bit_at_above, bit_at_cat_low, bit_at-lt}
use Rattle.mw_model.proofs.mw_facts.Numbers.{ones-bit}
use Rattle.mw_pixel.specs.mw_pixel_words.Packed.{bit_of}
use Rattle.mw_pixel.proofs.mw_pixel_words.Bits.{bit_of_word, bit_of-lt}
use Rattle.mw_pixel.proofs.mw_pixel_words.Funnels.{shl_low, shl_high}
use Rattle.mw_geodesic_runs.specs.Runs.{tally, left_of, begin_at}
use lib.Count.{ones}

-- ---- sums of numbers of places

pub next_tally : (s : ℕ → ℕ) (n : ℕ) → tally s (n + 1) ≡ tally s n + s n
next_tally s n = let one : n + 1 ≡ suc n = omega arith in ap (tally s) one

pub tally_same : (s t : ℕ → ℕ) (n : ℕ) → ((i : ℕ) → i < n → s i ≡ t i) → tally s n ≡ tally t n
tally_same s t zero same = refl
tally_same s t (suc n) same =
    let rest = tally_same s t n (λ i lt. same i (omega arith)) in
    let here = same n (omega arith) in
    omega arith

tally_parts : (s : ℕ → ℕ) (m n : ℕ) → tally s (m + n) ≡ tally s m + tally (λ i. s (m + i)) n
tally_parts s m zero =
    let end : m + 0 ≡ m = omega arith in
    let is = ap (tally s) end in
    omega arith
tally_parts s m (suc n) =
    let up : m + suc n ≡ suc (m + n) = omega arith in
    let is = ap (tally s) up in
    let rest = tally_parts s m n in
    omega arith

pub tally_none : (s : ℕ → ℕ) (m n : ℕ) → m ≤ n → ((i : ℕ) → m ≤ i → i < n → s i ≡ 0) → tally s n ≡ tally s m
tally_none s m zero le none = let same : zero ≡ m = omega arith in ap (tally s) same
tally_none s m (suc n) le none = elim (cases_lt n m) [
  | inl less ↦ let same : suc n ≡ m = omega arith in ap (tally s) same
  | inr from ↦
      let rest = tally_none s m n from (λ i low lt. none i low (omega arith)) in
      let here = none n from (omega arith) in
      omega arith
]

pub tally_more : (s : ℕ → ℕ) (m n : ℕ) → m ≤ n → tally s m ≤ tally s n
tally_more s m zero le = let same : m ≡ zero = omega arith in let is = ap (tally s) same in omega arith
tally_more s m (suc n) le = elim (cases_lt n m) [
  | inl less ↦ let same : m ≡ suc n = omega arith in let is = ap (tally s) same in omega arith
  | inr from ↦ let rest = tally_more s m n from in omega arith
]

pub tally_one : (s : ℕ → ℕ) (x n : ℕ) → x < n → s x ≡ 1 → ((i : ℕ) → x < i → i < n → s i ≡ 0) → tally s n ≡ tally s x + 1
tally_one s x n lt one none =
    let rest = tally_none s (x + 1) n (omega arith) (λ i from to. none i (omega arith) to) in
    let next = next_tally s x in
    omega arith

-- ---- what stands to the left

pub left_is : (s : ℕ → ℕ) (n q : ℕ) → n ≡ q + 1 → left_of s n ≡ s q
left_is s n q is = let next : n ≡ suc q = omega arith in ap (left_of s) next

pub left_none : (s : ℕ → ℕ) (x : ℕ) → ((u : ℕ) → u < x → s u ≡ 0) → left_of s x ≡ 0
left_none s zero none = refl
left_none s (suc x) none = none x (omega arith)

pub left_after : (s : ℕ → ℕ) (end next : ℕ) → end < next → ((u : ℕ) → end ≤ u → u < next → s u ≡ 0) → left_of s next ≡ 0
left_after s end zero lt none = refl
left_after s end (suc next) lt none = none next (omega arith) (omega arith)

pub left_same : (s t : ℕ → ℕ) (x : ℕ) → ((u : ℕ) → u < x → s u ≡ t u) → left_of s x ≡ left_of t x
left_same s t zero same = refl
left_same s t (suc x) same = same x (omega arith)

pub left_small : (words : List ℕ) (x : ℕ) → left_of (bit_of words) x < 2
left_small words zero = omega arith
left_small words (suc x) = bit_of-lt words x

-- ---- the bits of a word

pub ones_tally : (k n : ℕ) → n < 2 ^ k → ones n ≡ tally (bit_at n) k
unfolding ones
ones_tally zero n few = let none : n ≡ 0 = omega arith in ap ones none
ones_tally (suc k) n few =
    let high : n / 2 ^ k < 2 = shr_below n 1 k (next few) in
    let low : n % 2 ^ k < 2 ^ k = mod_below n (2 ^ k) (pow_pos k) in
    let split = shr_split n k in
    let same : tally (bit_at (n % 2 ^ k)) k ≡ tally (bit_at n) k = tally_same (bit_at (n % 2 ^ k)) (bit_at n) k (λ i lt. sym (bit_at_cat_low (n / 2 ^ k) k (n % 2 ^ k) i lt) ∙ ap (λ (t : ℕ). bit_at t i) split) in
    ap ones (sym split)
    ∙ ones_cat k (n / 2 ^ k) (n % 2 ^ k) low
    ∙ ap (λ (t : ℕ). t + ones (n % 2 ^ k)) (ones-bit (n / 2 ^ k) high)
    ∙ ap (λ (t : ℕ). n / 2 ^ k + t) (ones_tally k (n % 2 ^ k) low ∙ same)
    ∙ turn (n / 2 ^ k) (tally (bit_at n) k) high
  where
    next : n < 2 ^ suc k → n < 2 ^ (1 + k)
    next lt = let one : suc k ≡ 1 + k = omega arith in subst (λ (t : ℕ). n < 2 ^ t) one lt

    turn : (a b : ℕ) → a < 2 → a + b ≡ b + a % 2
    turn a b less = omega arith

-- 1 where a bit is set and the one before is not
combine : (r b nb mb sb lb want : ℕ) → r ≡ min b nb → nb ≡ 1 - mb → mb ≡ max sb lb → b < 2 → sb + lb < 2 → want ≡ b - (sb + lb) → r ≡ want
combine r b nb mb sb lb want a1 a2 a3 small few is = omega arith

shifted_small : (word : ℕ) → word * 2 ^ 1 % 2 ^ 64 < 2 ^ 64
shifted_small word = mod_below (word * 2 ^ 1) (2 ^ 64) (pow_pos 64)

pub first_begins : (word last : ℕ) → last < 2 → bit_at (bit_and word (bit_not w64 (bit_or (word * 2 ^ 1 % 2 ^ 64) last))) 0 ≡ bit_at word 0 - last
first_begins word last small =
    let m = bit_or (word * 2 ^ 1 % 2 ^ 64) last in
    let fits : m < 2 ^ 64 = or_lt 64 (word * 2 ^ 1 % 2 ^ 64) last (shifted_small word) (omega arith) in
    let low : bit_at last 0 ≡ last = bit_at_lowest last ∙ bit last small in
    let none : bit_at (word * 2 ^ 1 % 2 ^ 64) 0 ≡ 0 = shl_low word 1 0 (omega arith) (omega arith) in
    combine (bit_at (bit_and word (bit_not w64 m)) 0) (bit_at word 0) (bit_at (bit_not w64 m) 0) (bit_at m 0) (bit_at (word * 2 ^ 1 % 2 ^ 64) 0) (bit_at last 0) (bit_at word 0 - last) (bit_at_and word (bit_not w64 m) 0)
    (bit_at_not w64 m 0 fits (omega arith)) (bit_at_or (word * 2 ^ 1 % 2 ^ 64) last 0) (bit_at-lt word 0) (sum_small (bit_at (word * 2 ^ 1 % 2 ^ 64) 0) (bit_at last 0) last none low small) (left_over (bit_at word 0) (bit_at (word * 2 ^ 1 % 2 ^ 64) 0) (bit_at last 0) last none low)
  where
    bit : (b : ℕ) → b < 2 → b % 2 ≡ b
    bit b lt = omega arith

    sum_small : (s l b : ℕ) → s ≡ 0 → l ≡ b → b < 2 → s + l < 2
    sum_small s l b e f lt = omega arith

    left_over : (w s l b : ℕ) → s ≡ 0 → l ≡ b → w - b ≡ w - (s + l)
    left_over w s l b e f = omega arith

pub next_begins : (word last i : ℕ) → last < 2 → i + 1 < 64 → bit_at (bit_and word (bit_not w64 (bit_or (word * 2 ^ 1 % 2 ^ 64) last))) (i + 1) ≡ bit_at word (i + 1) - bit_at word i
next_begins word last i small lt =
    let m = bit_or (word * 2 ^ 1 % 2 ^ 64) last in
    let fits : m < 2 ^ 64 = or_lt 64 (word * 2 ^ 1 % 2 ^ 64) last (shifted_small word) (omega arith) in
    let none : bit_at last (i + 1) ≡ 0 = bit_at_above last 1 (i + 1) small (omega arith) in
    let back : i + 1 - 1 ≡ i = omega arith in
    let here : bit_at (word * 2 ^ 1 % 2 ^ 64) (i + 1) ≡ bit_at word i = shl_high word 1 (i + 1) (omega arith) lt ∙ ap (bit_at word) back in
    combine (bit_at (bit_and word (bit_not w64 m)) (i + 1)) (bit_at word (i + 1)) (bit_at (bit_not w64 m) (i + 1)) (bit_at m (i + 1)) (bit_at (word * 2 ^ 1 % 2 ^ 64) (i + 1)) (bit_at last (i + 1)) (bit_at word (i + 1) - bit_at word i)
    (bit_at_and word (bit_not w64 m) (i + 1)) (bit_at_not w64 m (i + 1) fits lt) (bit_at_or (word * 2 ^ 1 % 2 ^ 64) last (i + 1)) (bit_at-lt word (i + 1))
    (sum_small (bit_at (word * 2 ^ 1 % 2 ^ 64) (i + 1)) (bit_at last (i + 1)) (bit_at word i) here none (bit_at-lt word i)) (left_over (bit_at word (i + 1)) (bit_at (word * 2 ^ 1 % 2 ^ 64) (i + 1)) (bit_at last (i + 1)) (bit_at word i) here none)
  where
    sum_small : (s l b : ℕ) → s ≡ b → l ≡ 0 → b < 2 → s + l < 2
    sum_small s l b e f lt = omega arith

    left_over : (w s l b : ℕ) → s ≡ b → l ≡ 0 → w - b ≡ w - (s + l)
    left_over w s l b e f = omega arith

-- the bits of a word at which runs begin, in a row of words
pub record Begins (words : List ℕ) (k made : ℕ) : Type 0 where
  pub first : bit_at made 0 ≡ bit_at (get_or words k 0) 0 - left_of (bit_of words) (64 * k)
  pub others : (i : ℕ) → i + 1 < 64 → bit_at made (i + 1) ≡ bit_at (get_or words k 0) (i + 1) - bit_at (get_or words k 0) i

differ : (r b l b' l' : ℕ) → r ≡ b - l → b' ≡ b → l' ≡ l → r ≡ b' - l'
differ r b l b' l' e f g = omega arith

begins_are : (words : List ℕ) (k made i : ℕ) → Begins words k made → i < 64 → bit_at made i ≡ begin_at (bit_of words) (64 * k + i)
begins_are words k made zero are lt =
    let at : 64 * k + 0 ≡ 64 * k = omega arith in
    let bit = bit_of_word words k 0 (64 * k + 0) lt refl in
    let left = ap (left_of (bit_of words)) at in
    differ (bit_at made 0) (bit_at (get_or words k 0) 0) (left_of (bit_of words) (64 * k)) (bit_of words (64 * k + 0)) (left_of (bit_of words) (64 * k + 0)) are.first bit left
begins_are words k made (suc i) are lt =
    let one : suc i ≡ i + 1 = omega arith in
    let bit = bit_of_word words k (suc i) (64 * k + suc i) lt refl in
    let left = left_is (bit_of words) (64 * k + suc i) (64 * k + i) (omega arith) ∙ bit_of_word words k i (64 * k + i) (omega arith) refl in
    let made_is : bit_at made (suc i) ≡ bit_at (get_or words k 0) (suc i) - bit_at (get_or words k 0) i = subst (λ (t : ℕ). bit_at made t ≡ bit_at (get_or words k 0) t - bit_at (get_or words k 0) i) (sym one) (are.others i (omega arith)) in
    differ (bit_at made (suc i)) (bit_at (get_or words k 0) (suc i)) (bit_at (get_or words k 0) i) (bit_of words (64 * k + suc i)) (left_of (bit_of words) (64 * k + suc i)) made_is bit left

join : (c o a b s t : ℕ) → c ≡ a → o ≡ b → s ≡ a + b → t ≡ s → c + o ≡ t
join c o a b s t e f g h = omega arith

starts_by : (words : List ℕ) (k n made count : ℕ) → n ≡ 64 → made < 2 ^ n → Begins words k made → count ≡ tally (begin_at (bit_of words)) (64 * k) → count + ones made ≡ tally (begin_at (bit_of words)) (64 * (k + 1))
starts_by words k n made count whole_word fits are is =
    let up : 64 * (k + 1) ≡ 64 * k + n = omega arith in
    let whole = ap (tally (begin_at (bit_of words))) up in
    let parts = tally_parts (begin_at (bit_of words)) (64 * k) n in
    let here : ones made ≡ tally (λ i. begin_at (bit_of words) (64 * k + i)) n = ones_tally n made fits ∙ tally_same (bit_at made) (λ i. begin_at (bit_of words) (64 * k + i)) n (λ i lt. begins_are words k made i are (omega arith)) in
    join count (ones made) (tally (begin_at (bit_of words)) (64 * k)) (tally (λ i. begin_at (bit_of words) (64 * k + i)) n) (tally (begin_at (bit_of words)) (64 * k + n)) (tally (begin_at (bit_of words)) (64 * (k + 1))) is here parts whole

pub starts_more : (words : List ℕ) (k made count : ℕ) → made < 2 ^ 64 → Begins words k made → count ≡ tally (begin_at (bit_of words)) (64 * k) → count + ones made ≡ tally (begin_at (bit_of words)) (64 * (k + 1))
starts_more words k made count fits are is = starts_by words k 64 made count refl fits are is

pub last_is : (word : ℕ) → word < 2 ^ 64 → word / 2 ^ 63 ≡ bit_at word 63
last_is word fits = bit (word / 2 ^ 63) (shr_below word 1 63 fits)
  where
    bit : (b : ℕ) → b < 2 → b ≡ b % 2
    bit b lt = omega arith

pub last_more : (words : List ℕ) (k last : ℕ) → last ≡ bit_at (get_or words k 0) 63 → last ≡ left_of (bit_of words) (64 * (k + 1))
last_more words k last is =
    is
    ∙ sym (bit_of_word words k 63 (64 * k + 63) (omega arith) refl)
    ∙ sym (left_is (bit_of words) (64 * (k + 1)) (64 * k + 63) (omega arith))
