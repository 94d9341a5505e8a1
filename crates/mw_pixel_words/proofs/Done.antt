-- Words that are written one after another, and rows of words.
use Rattle.std.proofs.Common.{◌≡◌, ℕ, ◌+◌, ◌-◌, ◌*◌, ◌/◌, ◌%◌, ◌<◌, ◌≤◌, ◌≢◌, List, length, replicate, take, drop, set, get_or, ap, subst, sym, arith, ◌∙◌, inl, inr}
use Rattle.std.specs.Int.{bit_at}
use Rattle.std.proofs.Math.ListN.{length-set}
use Rattle.std.proofs.Math.Nat.{mul-le-mul_left}
use Rattle.std.proofs.lemmas.Bool.{cases_lt}
use Rattle.std.proofs.lemmas.List.{get_or-set_same, get_or-set_other}
use Rattle.std.proofs.lemmas.Simd.{get_or-replicate}
use Rattle.mw_model.proofs.mw_facts.Parts.{length-put_mid, get_or-put_mid_below as put_mid_below, get_or-put_mid_within as put_mid_at, get_or-put_mid_above as put_mid_above}
use Rattle.mw_pixel_words.specs.Packed.{bit_of}
use Rattle.mw_pixel_words.proofs.Bits.{bit_of_word, bit_of_its_word, bit_of_part, rows_fit}
use borrow.Rule.Slice.PartMut.{put_mid}

-- the bits of the words before i have their values, made from what stood there, and the other words are as they were
pub record WordsDone (value : ℕ → ℕ → ℕ) (i : ℕ) (old out : List ℕ) : Type 0 where
  pub size : length out ≡ length old
  pub done : (q : ℕ) → q < 64 * i → bit_of out q ≡ value (bit_of old q) q
  pub rest : (k : ℕ) → i ≤ k → get_or out k 0 ≡ get_or old k 0

pub words_more : (value : ℕ → ℕ → ℕ) (i : ℕ) (old out : List ℕ) (word : ℕ) → i < length out
    → ((b : ℕ) → b < 64 → bit_at word b ≡ value (bit_at (get_or out i 0) b) (64 * i + b)) → WordsDone value i old out → WordsDone value (i + 1) old (set out i word)
words_more value i old out word lt word-is before = record {
  size = length-set out i word ∙ before.size;
  done = λ q less. elim (cases_lt q (64 * i)) [
    | inl earlier ↦
        let other : q / 64 ≢ i = omega arith in
        bit_of_its_word (set out i word) q
        ∙ ap (λ (t : ℕ). bit_at t (q % 64)) (get_or-set_other out i (q / 64) word 0 other)
        ∙ sym (bit_of_its_word out q)
        ∙ before.done q earlier
    | inr from ↦
        let b = q % 64 in
        let here : q ≡ 64 * i + b = omega arith in
        bit_of_word (set out i word) i b q (omega arith) here
        ∙ ap (λ (t : ℕ). bit_at t b) (get_or-set_same out i word 0 lt)
        ∙ word-is b (omega arith)
        ∙ ap (λ (t : ℕ). value (bit_at t b) (64 * i + b)) (before.rest i (omega arith))
        ∙ ap (λ (t : ℕ). value t (64 * i + b)) (sym (bit_of_word old i b q (omega arith) here))
        ∙ ap (value (bit_of old q)) (sym here)
  ];
  rest = λ k from. let other : k ≢ i = omega arith in get_or-set_other out i k word 0 other ∙ before.rest k (omega arith);
}

-- the bits of the rows above y have their values, made from what stood there, and the other words are as they were
pub record BitRowsDone (value : ℕ → ℕ → ℕ → ℕ) (w h y : ℕ) (old out : List ℕ) : Type 0 where
  pub size : length out ≡ length old
  pub room : h * w ≤ length out
  pub done : (x j : ℕ) → x < 64 * w → j < y → bit_of out (j * (64 * w) + x) ≡ value (bit_of old (j * (64 * w) + x)) x j
  pub rest : (k : ℕ) → y * w ≤ k → get_or out k 0 ≡ get_or old k 0

row_place : (j w x : ℕ) → j * (64 * w) + x ≡ 64 * (j * w + x / 64) + x % 64
row_place j w x = omega arith

pub bit_rows_more : (value : ℕ → ℕ → ℕ → ℕ) (w h y m : ℕ) (old out made : List ℕ) → y < h → m ≡ w → length made ≡ w
    → ((x : ℕ) → x < 64 * w → bit_of made x ≡ value (bit_of (take m (drop (y * w) out)) x) x y)
    → BitRowsDone value w h y old out → BitRowsDone value w h (y + 1) old (put_mid (y * w) m out made)
bit_rows_more value w h y m old out made lt m-is len made-is before =
    let fits = rows_fit y h w lt in
    let here : y * w ≤ length out = omega (arith, before.room, fits) in
    let same : m ≡ length made = m-is ∙ sym len in
    let whole = length-put_mid (y * w) m out made (sym same) (omega (arith, before.room, fits)) in
    record {
      size = whole ∙ before.size;
      room = omega (arith, whole, before.room);
      done = λ x j less row_less.
          let place = row_place j w x in
          let to_word = bit_of_word (put_mid (y * w) m out made) (j * w + x / 64) (x % 64) (j * (64 * w) + x) (omega arith) place in
          elim (cases_lt j y) [
            | inl earlier ↦
                let le : j + 1 ≤ y = omega arith in
                let below : j * w + x / 64 < y * w = omega (arith, mul-le-mul_left w le) in
                to_word
                ∙ ap (λ (t : ℕ). bit_at t (x % 64)) (put_mid_below (y * w) m out made (j * w + x / 64) 0 here below)
                ∙ sym (bit_of_word out (j * w + x / 64) (x % 64) (j * (64 * w) + x) (omega arith) place)
                ∙ before.done x j less earlier
            | inr this ↦
                let j-is : j ≡ y = omega arith in
                let ahead : y * w + x / 64 - y * w ≡ x / 64 = omega arith in
                let start : y * (64 * w) + x ≡ 64 * (y * w) + x = omega arith in
                let from_old : bit_of out (y * (64 * w) + x) ≡ bit_of old (y * (64 * w) + x) =
                bit_of_word out (y * w + x / 64) (x % 64) (y * (64 * w) + x) (omega arith) (row_place y w x)
                ∙ ap (λ (t : ℕ). bit_at t (x % 64)) (before.rest (y * w + x / 64) (omega arith))
                ∙ sym (bit_of_word old (y * w + x / 64) (x % 64) (y * (64 * w) + x) (omega arith) (row_place y w x)) in
                to_word
                ∙ ap (λ (t : ℕ). bit_at (get_or (put_mid (y * w) m out made) (t * w + x / 64) 0) (x % 64)) j-is
                ∙ ap (λ (t : ℕ). bit_at t (x % 64)) (put_mid_at (y * w) m out made (y * w + x / 64) 0 here (omega arith) (omega arith) ∙ ap (λ (t : ℕ). get_or made t 0) ahead)
                ∙ sym (bit_of_its_word made x)
                ∙ made-is x less
                ∙ ap (λ (t : ℕ). value t x y) (bit_of_part out (y * w) m x (y * (64 * w) + x) (omega arith) start ∙ from_old)
                ∙ ap (λ (t : ℕ). value (bit_of old (t * (64 * w) + x)) x t) (sym j-is)
          ];
      rest = λ k from. put_mid_above (y * w) m out made k 0 here (sym same) (omega arith) ∙ before.rest k (omega arith);
    }

-- one more row of bits, where the code has the words of a row in s
pub bit_rows_more_by : (value : ℕ → ℕ → ℕ → ℕ) (w h y s m : ℕ) (old out made : List ℕ) → s ≡ w → y < h → m ≡ s → length made ≡ s
    → ((x : ℕ) → x < 64 * s → bit_of made x ≡ value (bit_of (take m (drop (y * s) out)) x) x y)
    → BitRowsDone value w h y old out → BitRowsDone value w h (y + 1) old (put_mid (y * s) m out made)
bit_rows_more_by value w h y s m old out made s-is lt m-is len made-is before =
    subst (λ (t : ℕ). (m ≡ t → length made ≡ t → ((x : ℕ) → x < 64 * t → bit_of made x ≡ value (bit_of (take m (drop (y * t) out)) x) x y) → BitRowsDone value w h (y + 1) old (put_mid (y * t) m out made))) (sym s-is)
    (λ same size is. bit_rows_more value w h y m old out made lt same size is before) m-is len made-is

-- a bit of words that are all one
pub blank_bit : (count word n q : ℕ) → q < 64 * count → ((i : ℕ) → i < 64 → bit_at word i ≡ n) → bit_of (replicate count word) q ≡ n
blank_bit count word n q lt word-is =
    bit_of_its_word (replicate count word) q
    ∙ ap (λ (t : ℕ). bit_at t (q % 64)) (get_or-replicate count (q / 64) word 0 (omega arith))
    ∙ word-is (q % 64) (omega arith)
