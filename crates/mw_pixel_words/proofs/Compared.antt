-- Bits that are compared with others.
use Rattle.std.proofs.Common.{◌≡◌, ℕ, ◌+◌, ◌-◌, ◌*◌, ◌/◌, ◌%◌, ◌^◌, ◌<◌, ◌≤◌, min, bit_and, List, length, get_or, slice_range, ap, sym, arith, ◌∙◌, inl, inr}
use Rattle.std.specs.Int.{bit_at}
use Rattle.std.proofs.lemmas.Bool.{cases_lt}
use Rattle.std.proofs.lemmas.Grind.{same_number_lists}
use Rattle.std.proofs.lemmas.Nat.{div_below, mod_below, div-add-mod'}
use Rattle.std.proofs.lemmas.Nat.Bits.{bit_at_and, bit_at-lt, same_from_bits}
use Rattle.mw_model.proofs.mw_facts.Numbers.{factor-positive}
use Rattle.mw_pixel_words.specs.Packed.{bit_of, stride_of, samples_of, IsPacked}
use Rattle.mw_pixel_words.specs.Runs.{HasSame}
use Rattle.mw_pixel_words.proofs.Bits.{length-samples_of, sample_is_bit, samples_are_bits, rows_fit}
use Rattle.mw_pixel_words.proofs.Copies.{low_one, low_none, length-run, get_run}

abbrev ones_of : ℕ → ℕ
ones_of count = (2 ^ 64 - 1) / 2 ^ (64 - count)

masked_low : (n count b : ℕ) → count ≤ 64 → b < count → bit_at (bit_and n (ones_of count)) b ≡ bit_at n b
masked_low n count b le lt =
    bit_at_and n (ones_of count) b ∙ ap (min (bit_at n b)) (low_one count b le lt) ∙ below_two (bit_at n b) (bit_at-lt n b)
  where
    below_two : (m : ℕ) → m < 2 → min m 1 ≡ m
    below_two m less = omega arith

masked_high : (n count b : ℕ) → count ≤ 64 → count ≤ b → bit_at (bit_and n (ones_of count)) b ≡ 0
masked_high n count b le past = bit_at_and n (ones_of count) b ∙ ap (min (bit_at n b)) (low_none count b le past) ∙ none (bit_at n b)
  where
    none : (m : ℕ) → min m 0 ≡ 0
    none m = omega arith

pub low_bits_of_same : (a b count : ℕ) → count ≤ 64 → bit_and a (ones_of count) ≡ bit_and b (ones_of count) → (i : ℕ) → i < count → bit_at a i ≡ bit_at b i
low_bits_of_same a b count le same i lt = sym (masked_low a count i le lt) ∙ ap (λ (t : ℕ). bit_at t i) same ∙ masked_low b count i le lt

pub same_of_low_bits : (a b count : ℕ) → count ≤ 64 → ((i : ℕ) → i < count → bit_at a i ≡ bit_at b i) → bit_and a (ones_of count) ≡ bit_and b (ones_of count)
same_of_low_bits a b count le same =
    same_from_bits (bit_and a (ones_of count)) (bit_and b (ones_of count))
    (λ i. elim (cases_lt i count) [
      | inl lt ↦ masked_low a count i le lt ∙ same i lt ∙ sym (masked_low b count i le lt)
      | inr past ↦ masked_high a count i le past ∙ sym (masked_high b count i le past)
    ])

-- one part more
pub same_more : (place from done part bits others : ℕ) (words other : List ℕ) → part ≤ 64 → ((i : ℕ) → i < 64 → bit_at bits i ≡ bit_of words (place + done + i)) → ((i : ℕ) → i < 64 → bit_at others i ≡ bit_of other (from + done + i))
    → ((i : ℕ) → i < part → bit_at bits i ≡ bit_at others i) → HasSame place from done words other → HasSame place from (done + part) words other
same_more place from done part bits others words other small bits-are others-are same before i lt =
    elim (cases_lt i done) [
      | inl earlier ↦ before i earlier
      | inr later ↦
          let j = i - done in
          ap (bit_of words) (sym (regroup place done i later))
          ∙ sym (bits-are j (omega arith))
          ∙ same j (omega arith)
          ∙ others-are j (omega arith)
          ∙ ap (bit_of other) (regroup from done i later)
    ]
  where
    regroup : (a b i : ℕ) → b ≤ i → a + b + (i - b) ≡ a + i
    regroup a b i le = omega arith

-- where all bits are the same, those of each part are
pub same_part : (place from done part count bits others : ℕ) (words other : List ℕ) → part ≤ 64 → done + part ≤ count → ((i : ℕ) → i < 64 → bit_at bits i ≡ bit_of words (place + done + i)) → ((i : ℕ) → i < 64 → bit_at others i ≡ bit_of other (from + done + i))
    → HasSame place from count words other → (i : ℕ) → i < part → bit_at bits i ≡ bit_at others i
same_part place from done part count bits others words other small within bits-are others-are all i lt =
    bits-are i (omega arith) ∙ ap (bit_of words) (group place done i) ∙ all (done + i) (omega arith) ∙ ap (bit_of other) (sym (group from done i)) ∙ sym (others-are i (omega arith))
  where
    group : (a b c : ℕ) → a + b + c ≡ a + (b + c)
    group a b c = omega arith

-- a run of a row, and the bits of its words
pub record IsRun (place count a : ℕ) (row cells : List ℕ) : Type 0 where
  pub inside : a + count ≤ length cells
  pub bits : (i : ℕ) → i < count → bit_of row (place + i) ≡ get_or cells (a + i) 0

pub runs_same : (place from count a b : ℕ) (row other cells others : List ℕ) → IsRun place count a row cells → IsRun from count b other others → HasSame place from count row other
    → slice_range cells a (a + count) ≡ slice_range others b (b + count)
runs_same place from count a b row other cells others is are same =
    let first = length-run cells a count is.inside in
    let second = length-run others b count are.inside in
    same_number_lists (slice_range cells a (a + count)) (slice_range others b (b + count)) (first ∙ sym second)
    (λ i lt.
    let less : i < count = omega (arith, first) in
    get_run cells a count i less ∙ sym (is.bits i less) ∙ same i less ∙ are.bits i less ∙ sym (get_run others b count i less))

pub bits_same : (place from count a b : ℕ) (row other cells others : List ℕ) → IsRun place count a row cells → IsRun from count b other others → slice_range cells a (a + count) ≡ slice_range others b (b + count)
    → HasSame place from count row other
bits_same place from count a b row other cells others is are same i lt =
    is.bits i lt
    ∙ sym (get_run cells a count i lt)
    ∙ ap (λ (t : List ℕ). get_or t i 0) same
    ∙ get_run others b count i lt
    ∙ sym (are.bits i lt)

-- all bits of two sets with one width and height are the same where their samples are
pub samples_same : (w h n : ℕ) (words others : List ℕ) → n ≡ 64 * length words → IsPacked w h words → HasSame 0 0 n words others → samples_of w h words ≡ samples_of w h others
samples_same w h n words others n-is packed same =
    samples_are_bits w h others (samples_of w h words) (length-samples_of w h words)
    (λ x y lt row_less.
    let at = y * (64 * stride_of w) + x in
    let wide : x < 64 * stride_of w = omega arith in
    let inside : at < n = omega (arith, packed.size, rows_fit y h (64 * stride_of w) row_less) in
    sample_is_bit w h words x y lt row_less ∙ ap (bit_of words) (ahead at) ∙ same at inside ∙ ap (bit_of others) (sym (ahead at)))
  where
    ahead : (q : ℕ) → q ≡ 0 + q
    ahead q = omega arith

pub all_bits_same : (w h n : ℕ) (words others : List ℕ) → n ≡ 64 * length words → IsPacked w h words → IsPacked w h others → samples_of w h words ≡ samples_of w h others → HasSame 0 0 n words others
all_bits_same w h n words others n-is packed other_packed same i lt =
    let wide = 64 * stride_of w in
    let few : i < h * wide = omega (arith, packed.size) in
    let some = factor-positive i h wide few in
    let y = i / wide in
    let x = i % wide in
    let row_less : y < h = div_below i wide h some few in
    let less : x < wide = mod_below i wide some in
    let split : y * wide + x ≡ 0 + i = div-add-mod' i wide ∙ omega arith in
    ap (bit_of words) (sym split)
    ∙ elim (cases_lt x w) [
      | inl inside ↦
          sym (sample_is_bit w h words x y inside row_less) ∙ ap (λ (t : List ℕ). get_or t (y * w + x) 0) same ∙ sample_is_bit w h others x y inside row_less
      | inr past ↦ packed.clean x y row_less past less ∙ sym (other_packed.clean x y row_less past less)
    ]
    ∙ ap (bit_of others) split
