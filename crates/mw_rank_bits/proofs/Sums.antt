-- Bits that are counted at the places of a part of a list.
use Rattle.std.proofs.Common.{◌≡◌, ℕ, ◌+◌, ◌-◌, ◌*◌, ◌^◌, ◌<◌, ◌≤◌, List, length, take, drop, get_or, refl, ap, sym, arith, ◌∙◌, length-drop, zero-add}
use Rattle.std.proofs.Math.Seq.{take-add}
use Rattle.std.proofs.lemmas.List.{drop-drop, get_or-drop, take_all}
use Rattle.std.proofs.lemmas.List.Sums.{sum_by-append, sum_by_more, sum_by-take-drop}
use Rattle.mw_bits.specs.mw_pixel_words.Packed.{bit_of}
use Rattle.mw_rank_bits.specs.Numbers.{bits_at, number_at, HasAdded}

pub parts : (cells places : List ℕ) (i m n k j q : ℕ) → k ≡ m + n → j ≡ i + m → bits_at cells (take k (drop i places)) q ≡ bits_at cells (take m (drop i places)) q + bits_at cells (take n (drop j places)) q
parts cells places i m n k j q k-is j-is =
    let f : ℕ → ℕ = λ (s : ℕ). bit_of cells (s + q) in
    ap (λ (t : ℕ). bits_at cells (take t (drop i places)) q) k-is
    ∙ ap (λ (t : List ℕ). bits_at cells t q) (take-add m n (drop i places))
    ∙ sum_by-append f (take m (drop i places)) (take n (drop m (drop i places)))
    ∙ ap (λ (t : List ℕ). bits_at cells (take m (drop i places)) q + bits_at cells (take n t) q) (drop-drop m i places ∙ ap (λ (t : ℕ). drop t places) (sym j-is))

pub one_part : (cells places : List ℕ) (i q : ℕ) → i < length places → bits_at cells (take 1 (drop i places)) q ≡ bit_of cells (get_or places i 0 + q)
one_part cells places i q lt =
    let f : ℕ → ℕ = λ (s : ℕ). bit_of cells (s + q) in
    let some : 0 < length (drop i places) = omega (arith, length-drop i places) in
    sum_by_more f (drop i places) 0 0 some ∙ zero-add (f (get_or (drop i places) 0 0)) ∙ ap f (get_or-drop i places 0 0 ∙ ap (λ (t : ℕ). get_or places t 0) (let e : i + 0 ≡ i = omega arith in e))

pub three_parts : (cells places : List ℕ) (i q : ℕ) → i + 3 ≤ length places
    → bits_at cells (take 3 (drop i places)) q ≡ bit_of cells (get_or places i 0 + q) + bit_of cells (get_or places (i + 1) 0 + q) + bit_of cells (get_or places (i + 2) 0 + q)
three_parts cells places i q fits =
    omega (arith, parts cells places i 1 2 3 (i + 1) q refl refl, parts cells places (i + 1) 1 1 2 (i + 2) q refl (omega arith), one_part cells places i q (omega arith), one_part cells places (i + 1) q (omega arith), one_part cells places (i + 2) q (omega arith))

pub seven_parts : (cells places : List ℕ) (i q : ℕ) → bits_at cells (take 7 (drop i places)) q ≡ bits_at cells (take 3 (drop i places)) q + bits_at cells (take 3 (drop (i + 3) places)) q + bits_at cells (take 1 (drop (i + 6) places)) q
seven_parts cells places i q = omega (arith, parts cells places i 3 4 7 (i + 3) q refl refl, parts cells places (i + 3) 3 1 4 (i + 6) q refl (omega arith))

-- the places that come after so many
pub front_more : (cells places : List ℕ) (m n k q : ℕ) → k ≡ m + n → bits_at cells (take k places) q ≡ bits_at cells (take m places) q + bits_at cells (take n (drop m places)) q
front_more cells places m n k q k-is = parts cells places 0 m n k m q k-is (omega arith)

pub front_rest : (cells places : List ℕ) (m q : ℕ) → bits_at cells places q ≡ bits_at cells (take m places) q + bits_at cells (drop m places) q
front_rest cells places m q = sym (sum_by-take-drop (λ (s : ℕ). bit_of cells (s + q)) places m)

-- the next `wide` places
pub front_step : (cells places : List ℕ) (wide i j q : ℕ) → j ≡ wide * i → bits_at cells (take (wide * (i + 1)) places) q ≡ bits_at cells (take (wide * i) places) q + bits_at cells (take wide (drop j places)) q
front_step cells places wide i j q j-is =
    let more : wide * (i + 1) ≡ wide * i + wide = omega arith in
    front_more cells places (wide * i) wide (wide * (i + 1)) q more ∙ ap (λ (t : ℕ). bits_at cells (take (wide * i) places) q + bits_at cells (take wide (drop t places)) q) (sym j-is)

-- what is added in two steps
pub added_both : (seen : ℕ → ℕ) (n m : ℕ) (first second all : ℕ → ℕ) (old mid new : List ℕ) → m ≡ n → ((q : ℕ) → q < 128 → all q ≡ first q + second q) → HasAdded seen n first old mid → HasAdded seen m second mid new → HasAdded seen n all old new
added_both seen n m first second all old mid new m-is is before more = λ q lt fits.
    let sum = is q lt in
    let front = before q lt (omega arith) in
    let width = ap (λ (t : ℕ). 2 ^ t) m-is in
    let was = ap (λ (t : ℕ). number_at seen t mid q) m-is in
    let now = ap (λ (t : ℕ). number_at seen t new q) m-is in
    let rest = more q lt (omega (arith, front, sum, width, was)) in
    omega (arith, front, sum, was, now, rest)

-- after the bits at the first places those at the others
pub added_rest : (seen : ℕ → ℕ) (n m : ℕ) (cells places : List ℕ) (wide i k at : ℕ) (old mid new : List ℕ) → m ≡ n → k ≡ wide * i → HasAdded seen n (λ q. bits_at cells (take (wide * i) places) (64 * at + q)) old mid
    → HasAdded seen m (λ q. bits_at cells (take (length places - k) (drop k places)) (64 * at + q)) mid new → HasAdded seen n (λ q. bits_at cells places (64 * at + q)) old new
added_rest seen n m cells places wide i k at old mid new m-is k-is before more =
    let all : take (length places - k) (drop k places) ≡ drop k places = take_all (length places - k) (drop k places) (omega (arith, length-drop k places)) in
    let rest-is : take (length places - k) (drop k places) ≡ drop (wide * i) places = all ∙ ap (λ (t : ℕ). drop t places) k-is in
    added_both seen n m (λ q. bits_at cells (take (wide * i) places) (64 * at + q)) (λ q. bits_at cells (take (length places - k) (drop k places)) (64 * at + q)) (λ q. bits_at cells places (64 * at + q)) old mid new m-is
    (λ q lt. front_rest cells places (wide * i) (64 * at + q) ∙ ap (λ (t : List ℕ). bits_at cells (take (wide * i) places) (64 * at + q) + bits_at cells t (64 * at + q)) (sym rest-is)) before more
