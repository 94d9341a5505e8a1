-- Bits that are written over others.
use Rattle.std.proofs.Common.{◌≡◌, ◌⊎◌, ℕ, ◌+◌, ◌-◌, ◌*◌, ◌/◌, ◌%◌, ◌^◌, ◌<◌, ◌≤◌, ◌≢◌, min, bit_and, bit_xor, List, length, take, drop, set, get_or, slice_range, refl, ap, sym, arith, ◌∙◌, inl, inr, length-take, length-drop}
use Rattle.std.specs.Int.{bit_at}
use Rattle.std.proofs.Math.ListN.{length-set}
use Rattle.std.proofs.Math.Nat.{mul-le-mul_left}
use Rattle.std.proofs.lemmas.Bool.{cases_lt, cases_eq}
use Rattle.std.proofs.lemmas.List.{get_or-set_same, get_or-set_other, get_or-take, get_or-drop}
use Rattle.std.proofs.lemmas.Nat.{shr-shr}
use Rattle.std.proofs.lemmas.Nat.Bits.{bit_at_and, bit_at_xor, bit_at_ones, bit_at_ones_above, bit_at-lt}
use Rattle.mw_model.proofs.mw_facts.Parts.{length-put_mid, get_or-put_mid_below as put_mid_below, get_or-put_mid_within as put_mid_at, get_or-put_mid_above as put_mid_above}
use Rattle.mw_pixel_words.specs.Packed.{bit_of, stride_of, samples_of, IsPacked}
use Rattle.mw_pixel_words.specs.Runs.{put_at, IsBlended, HasCopied}
use Rattle.mw_pixel_words.proofs.Bits.{bit_of_word, bit_of_its_word, bit_of_part, sample_is_bit, length-samples_of, samples_are_bits, rows_fit}
use Rattle.mw_pixel_words.proofs.Funnels.{shl_low, shl_high}
use borrow.Rule.Slice.PartMut.{put_mid}

-- so many ones from the lowest bit on
abbrev ones_of : ℕ → ℕ
ones_of count = (2 ^ 64 - 1) / 2 ^ (64 - count)

pub low_one : (count b : ℕ) → count ≤ 64 → b < count → bit_at (ones_of count) b ≡ 1
low_one count b le lt =
    let place : 64 - count + b < 64 = omega arith in
    ap (λ (t : ℕ). t % 2) (shr-shr (2 ^ 64 - 1) (64 - count) b) ∙ bit_at_ones 64 (64 - count + b) place

pub low_none : (count b : ℕ) → count ≤ 64 → count ≤ b → bit_at (ones_of count) b ≡ 0
low_none count b le past =
    let place : 64 ≤ 64 - count + b = omega arith in
    ap (λ (t : ℕ). t % 2) (shr-shr (2 ^ 64 - 1) (64 - count) b) ∙ bit_at_ones_above 64 (64 - count + b) place

-- what is left of a word, and what is taken from the other, bit by bit
mixed_bit : (word other mask b : ℕ) → bit_at (bit_xor word (bit_and (bit_xor word other) mask)) b ≡ (bit_at word b + min ((bit_at word b + bit_at other b) % 2) (bit_at mask b)) % 2
mixed_bit word other mask b =
    bit_at_xor word (bit_and (bit_xor word other) mask) b
    ∙ ap (λ (t : ℕ). (bit_at word b + t) % 2) (bit_at_and (bit_xor word other) mask b ∙ ap (λ (t : ℕ). min t (bit_at mask b)) (bit_at_xor word other b))

kept_bit : (word other mask b : ℕ) → bit_at mask b ≡ 0 → bit_at (bit_xor word (bit_and (bit_xor word other) mask)) b ≡ bit_at word b
kept_bit word other mask b none = mixed_bit word other mask b ∙ keep (bit_at word b) (bit_at other b) (bit_at mask b) (bit_at-lt word b) none
  where
    keep : (p q r : ℕ) → p < 2 → r ≡ 0 → (p + min ((p + q) % 2) r) % 2 ≡ p
    keep p q r small r-is = omega arith

taken_bit : (word other mask b : ℕ) → bit_at mask b ≡ 1 → bit_at (bit_xor word (bit_and (bit_xor word other) mask)) b ≡ bit_at other b
taken_bit word other mask b one = mixed_bit word other mask b ∙ take_other (bit_at word b) (bit_at other b) (bit_at mask b) (bit_at-lt word b) (bit_at-lt other b) one
  where
    take_other : (p q r : ℕ) → p < 2 → q < 2 → r ≡ 1 → (p + min ((p + q) % 2) r) % 2 ≡ q
    take_other p q r small less r-is = omega arith

pub blended_word : (lead count word other : ℕ) → 0 < count → lead + count ≤ 64
    → IsBlended lead count word other (bit_xor word (bit_and (bit_xor word (other * 2 ^ lead % 2 ^ 64)) (ones_of count * 2 ^ lead % 2 ^ 64)))
blended_word lead count word other some room = record {
  below = λ b lt. kept_bit word moved mask b (shl_low (ones_of count) lead b lt (omega arith));
  inside = λ b from to.
      let less : b < 64 = omega arith in
      taken_bit word moved mask b (shl_high (ones_of count) lead b from less ∙ low_one count (b - lead) (omega arith) (omega arith))
      ∙ shl_high other lead b from less;
  above = λ b past less.
      kept_bit word moved mask b (shl_high (ones_of count) lead b (omega arith) less ∙ low_none count (b - lead) (omega arith) (omega arith));
}
  where
    moved : ℕ
    moved = other * 2 ^ lead % 2 ^ 64

    mask : ℕ
    mask = ones_of count * 2 ^ lead % 2 ^ 64

-- bits of words of which one was written over
set_other : (words : List ℕ) (k word p : ℕ) → p / 64 ≢ k → bit_of (set words k word) p ≡ bit_of words p
set_other words k word p other =
    bit_of_its_word (set words k word) p ∙ ap (λ (t : ℕ). bit_at t (p % 64)) (get_or-set_other words k (p / 64) word 0 other) ∙ sym (bit_of_its_word words p)

set_here : (words : List ℕ) (k word b p : ℕ) → k < length words → b < 64 → p ≡ 64 * k + b → bit_of (set words k word) p ≡ bit_at word b
set_here words k word b p lt less p-is = bit_of_word (set words k word) k b p less p-is ∙ ap (λ (t : ℕ). bit_at t b) (get_or-set_same words k word 0 lt)

-- one part more
pub copied_more : (place from done part k lead at bits word : ℕ) (other old now : List ℕ) → at ≡ place + done → k ≡ at / 64 → lead ≡ at % 64 → 0 < part → lead + part ≤ 64 → k < length now
    → ((i : ℕ) → i < 64 → bit_at bits i ≡ bit_of other (from + done + i)) → IsBlended lead part (get_or now k 0) bits word
    → HasCopied place from done other old now → HasCopied place from (done + part) other old (set now k word)
copied_more place from done part k lead at bits word other old now at-is k-is lead-is some room lt bits-are blend before = record {
  size = length-set now k word ∙ before.size;
  before = λ p less. kept p (inl (omega arith)) ∙ before.before p less;
  copied = λ i less. elim (cases_lt i done) [
    | inl earlier ↦ kept (place + i) (inl (omega arith)) ∙ before.copied i earlier
    | inr later ↦
        let j : i ≡ done + (i - done) = omega arith in
        set_here now k word (lead + (i - done)) (place + i) lt (omega arith) (omega arith)
        ∙ blend.inside (lead + (i - done)) (omega arith) (omega arith)
        ∙ ap (bit_at bits) (back lead (i - done))
        ∙ bits-are (i - done) (omega arith)
        ∙ ap (bit_of other) (regroup from done i later)
  ];
  after = λ p past. kept p (inr (omega arith)) ∙ before.after p (omega arith);
}
  where
    back : (a b : ℕ) → a + b - a ≡ b
    back a b = omega arith

    regroup : (a b i : ℕ) → b ≤ i → a + b + (i - b) ≡ a + i
    regroup a b i le = omega arith

    kept : (p : ℕ) → (p < at) ⊎ (at + part ≤ p) → bit_of (set now k word) p ≡ bit_of now p
    kept p out = elim (cases_eq (p / 64) k) [
      | inr elsewhere ↦ set_other now k word p elsewhere
      | inl here ↦
          let p-is : p ≡ 64 * k + p % 64 = omega arith in
          let less : p % 64 < 64 = omega arith in
          set_here now k word (p % 64) p lt less p-is
          ∙ elim out [
            | inl ahead ↦ blend.below (p % 64) (omega arith)
            | inr behind ↦ blend.above (p % 64) (omega arith) less
          ]
          ∙ sym (bit_of_word now k (p % 64) p less p-is)
    ]

-- bits of rows of which one was written over
row_here : (s y m i : ℕ) (words made : List ℕ) → y * s ≤ length words → length made ≡ s → m ≡ s → i < 64 * s → bit_of (put_mid (y * s) m words made) (y * (64 * s) + i) ≡ bit_of made i
row_here s y m i words made room size m-is lt =
    let place : y * (64 * s) + i ≡ 64 * (y * s + i / 64) + i % 64 = omega arith in
    let ahead : y * s + i / 64 - y * s ≡ i / 64 = omega arith in
    bit_of_word (put_mid (y * s) m words made) (y * s + i / 64) (i % 64) (y * (64 * s) + i) (omega arith) place
    ∙ ap (λ (t : ℕ). bit_at t (i % 64)) (put_mid_at (y * s) m words made (y * s + i / 64) 0 room (omega arith) (omega arith) ∙ ap (λ (t : ℕ). get_or made t 0) ahead)
    ∙ sym (bit_of_its_word made i)

row_elsewhere : (s y m j i : ℕ) (words made : List ℕ) → y * s ≤ length words → length made ≡ s → m ≡ s → i < 64 * s → j ≢ y → bit_of (put_mid (y * s) m words made) (j * (64 * s) + i) ≡ bit_of words (j * (64 * s) + i)
row_elsewhere s y m j i words made room size m-is lt other =
    let place : j * (64 * s) + i ≡ 64 * (j * s + i / 64) + i % 64 = omega arith in
    bit_of_word (put_mid (y * s) m words made) (j * s + i / 64) (i % 64) (j * (64 * s) + i) (omega arith) place
    ∙ ap (λ (t : ℕ). bit_at t (i % 64)) (elim (cases_lt j y) [
      | inl up ↦
          let le : j + 1 ≤ y = omega arith in
          put_mid_below (y * s) m words made (j * s + i / 64) 0 room (omega (arith, mul-le-mul_left s le))
      | inr from ↦
          let le : y + 1 ≤ j = omega arith in
          put_mid_above (y * s) m words made (j * s + i / 64) 0 room (size ∙ sym m-is) (omega (arith, mul-le-mul_left s le))
    ])
    ∙ sym (bit_of_word words (j * s + i / 64) (i % 64) (j * (64 * s) + i) (omega arith) place)

-- what is known where bits of a row of another set were written over those of row y
pub record RowCopied (w h x y s m count a from : ℕ) (words made : List ℕ) (cells other_row : List ℕ) : Type 0 where
  pub stride : s ≡ stride_of w
  pub whole : m ≡ s
  pub down : y < h
  pub across : x + count ≤ w
  pub packed : IsPacked w h words
  pub copied : HasCopied x from count other_row (take m (drop (y * s) words)) made
  pub inside : a + count ≤ length cells
  pub same : (i : ℕ) → i < count → bit_of other_row (from + i) ≡ get_or cells (a + i) 0

copied_room : (w h x y s m count a from : ℕ) (words made cells other_row : List ℕ) → RowCopied w h x y s m count a from words made cells other_row → y * s + s ≤ length words
copied_room w h x y s m count a from words made cells other_row is =
    let size = is.packed.size in
    let stride-is = ap (λ (t : ℕ). h * t) is.stride in
    omega (arith, size, stride-is, rows_fit y h s is.down)

copied_size : (w h x y s m count a from : ℕ) (words made cells other_row : List ℕ) → RowCopied w h x y s m count a from words made cells other_row → length made ≡ s
copied_size w h x y s m count a from words made cells other_row is =
    let room = copied_room w h x y s m count a from words made cells other_row is in
    let m-is = is.whole in
    is.copied.size ∙ (omega (arith, length-take m (drop (y * s) words), length-drop (y * s) words))

-- a bit of row y that was not written over
old_bit : (w h x y s m count a from : ℕ) (words made cells other_row : List ℕ) → RowCopied w h x y s m count a from words made cells other_row
    → (i : ℕ) → i < 64 * s → (i < x) ⊎ (x + count ≤ i) → bit_of made i ≡ bit_of words (y * (64 * s) + i)
old_bit w h x y s m count a from words made cells other_row is i lt out =
    let m-is = is.whole in
    elim out [ inl left ↦ is.copied.before i left | inr right ↦ is.copied.after i right ]
    ∙ bit_of_part words (y * s) m i (y * (64 * s) + i) (omega arith) (omega arith)

pub copied_packed : (w h x y s m count a from : ℕ) (words made cells other_row : List ℕ) → RowCopied w h x y s m count a from words made cells other_row → IsPacked w h (put_mid (y * s) m words made)
copied_packed w h x y s m count a from words made cells other_row is =
    let room = copied_room w h x y s m count a from words made cells other_row is in
    let size = copied_size w h x y s m count a from words made cells other_row is in
    let m-is = is.whole in
    let s-is = is.stride in
    let here : y * s ≤ length words = omega arith in
    record {
      size = length-put_mid (y * s) m words made (size ∙ sym m-is) (omega arith) ∙ is.packed.size;
      clean = λ i j row_less past less.
          let inside : i < 64 * s = omega arith in
          let turned : (q : ℕ) → q * (64 * s) + i ≡ q * (64 * stride_of w) + i = λ q. ap (λ (t : ℕ). q * (64 * t) + i) s-is in
          ap (bit_of (put_mid (y * s) m words made)) (sym (turned j))
          ∙ elim (cases_eq j y) [
            | inl this ↦
                let across = is.across in
                ap (λ (t : ℕ). bit_of (put_mid (y * s) m words made) (t * (64 * s) + i)) this
                ∙ row_here s y m i words made here size m-is inside
                ∙ old_bit w h x y s m count a from words made cells other_row is i inside (inr (omega arith))
                ∙ ap (bit_of words) (turned y)
                ∙ is.packed.clean i y is.down past less
            | inr other ↦
                row_elsewhere s y m j i words made here size m-is inside other
                ∙ ap (bit_of words) (turned j)
                ∙ is.packed.clean i j row_less past less
          ];
    }

pub length-run : (cells : List ℕ) (a count : ℕ) → a + count ≤ length cells → length (slice_range cells a (a + count)) ≡ count
length-run cells a count le = omega (arith, length-take (a + count - a) (drop a cells), length-drop a cells)

pub get_run : (cells : List ℕ) (a count i : ℕ) → i < count → get_or (slice_range cells a (a + count)) i 0 ≡ get_or cells (a + i) 0
get_run cells a count i lt = get_or-take (a + count - a) (drop a cells) i 0 (omega arith) ∙ get_or-drop a cells i 0

pub copied_samples : (w h x y s m count a from : ℕ) (words made cells other_row : List ℕ) → RowCopied w h x y s m count a from words made cells other_row
    → samples_of w h (put_mid (y * s) m words made) ≡ put_at (y * w + x) (slice_range cells a (a + count)) (samples_of w h words)
copied_samples w h x y s m count a from words made cells other_row is =
    let room = copied_room w h x y s m count a from words made cells other_row is in
    let size = copied_size w h x y s m count a from words made cells other_row is in
    let m-is = is.whole in
    let s-is = is.stride in
    let across = is.across in
    let here : y * s ≤ length words = omega arith in
    let run = slice_range cells a (a + count) in
    let run-size : length run ≡ count = length-run cells a count is.inside in
    let old = samples_of w h words in
    let old-size = length-samples_of w h words in
    let new = put_mid (y * s) m words made in
    let fits = rows_fit y h w is.down in
    let start : y * w + x ≤ length old = omega (arith, old-size, fits) in
    sym (samples_are_bits w h new (put_at (y * w + x) run old)
    (length-put_mid (y * w + x) (length run) old run refl (omega (arith, old-size, fits, run-size)) ∙ old-size)
    (λ i j less row_less.
    let inside : i < 64 * s = omega arith in
    let turned : (q : ℕ) → q * (64 * s) + i ≡ q * (64 * stride_of w) + i = λ q. ap (λ (t : ℕ). q * (64 * t) + i) s-is in
    elim (cases_eq j y) [
      | inr other ↦
          elim (cases_lt j y) [
            | inl up ↦
                let le : j + 1 ≤ y = omega arith in
                put_mid_below (y * w + x) (length run) old run (j * w + i) 0 start (omega (arith, mul-le-mul_left w le))
            | inr from ↦
                let le : y + 1 ≤ j = omega arith in
                put_mid_above (y * w + x) (length run) old run (j * w + i) 0 start refl (omega (arith, mul-le-mul_left w le, run-size))
          ]
          ∙ sample_is_bit w h words i j less row_less
          ∙ ap (bit_of words) (sym (turned j))
          ∙ sym (row_elsewhere s y m j i words made here size m-is inside other)
          ∙ ap (bit_of new) (turned j)
      | inl this ↦
          let to_here : (t : ℕ) → t ≡ bit_of made i → t ≡ bit_of new (j * (64 * stride_of w) + i) = λ t t-is.
          t-is
          ∙ sym (row_here s y m i words made here size m-is inside)
          ∙ ap (λ (q : ℕ). bit_of new (q * (64 * s) + i)) (sym this)
          ∙ ap (bit_of new) (turned j) in
          let kept : (i < x) ⊎ (x + count ≤ i) → get_or old (y * w + i) 0 ≡ bit_of made i = λ out.
          sample_is_bit w h words i y less is.down
          ∙ ap (bit_of words) (sym (turned y))
          ∙ sym (old_bit w h x y s m count a from words made cells other_row is i inside out) in
          ap (λ (q : ℕ). get_or (put_at (y * w + x) run old) (q * w + i) 0) this
          ∙ to_here (get_or (put_at (y * w + x) run old) (y * w + i) 0) (elim (cases_lt i x) [
            | inl left ↦ put_mid_below (y * w + x) (length run) old run (y * w + i) 0 start (omega arith) ∙ kept (inl left)
            | inr past ↦ elim (cases_lt i (x + count)) [
              | inr right ↦ put_mid_above (y * w + x) (length run) old run (y * w + i) 0 start refl (omega (arith, run-size)) ∙ kept (inr right)
              | inl within ↦
                  let back : y * w + i - (y * w + x) ≡ i - x = omega arith in
                  let whole : x + (i - x) ≡ i = omega arith in
                  put_mid_at (y * w + x) (length run) old run (y * w + i) 0 start (omega arith) (omega (arith, run-size))
                  ∙ ap (λ (t : ℕ). get_or run t 0) back
                  ∙ get_run cells a count (i - x) (omega arith)
                  ∙ sym (is.same (i - x) (omega arith))
                  ∙ sym (is.copied.copied (i - x) (omega arith))
                  ∙ ap (bit_of made) whole
            ]
          ])
    ]))

pub copied_whole : (w h x y s m count a from : ℕ) (words made cells other_row : List ℕ) → RowCopied w h x y s m count a from words made cells other_row → length (put_mid (y * s) m words made) ≡ length words
copied_whole w h x y s m count a from words made cells other_row is =
    let room = copied_room w h x y s m count a from words made cells other_row is in
    let size = copied_size w h x y s m count a from words made cells other_row is in
    let m-is = is.whole in
    length-put_mid (y * s) m words made (size ∙ sym m-is) (omega arith)
