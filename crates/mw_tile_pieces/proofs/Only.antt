-- Blocks of one cell throughout, which change nothing where the window has that cell.
use Rattle.std.proofs.Common.{◌≡◌, ℕ, ◌+◌, ◌-◌, ◌*◌, ◌/◌, ◌%◌, ◌^◌, ◌<◌, ◌≤◌, max, bit_or, List, replicate, get_or, Some, refl, ap, sym, arith, ◌∙◌, inl, inr}
use Rattle.std.specs.Int.{bit_at}
use Rattle.std.specs.Int.Bits.{bit_xor}
use Rattle.std.proofs.lemmas.Bool.{cases_lt}
use Rattle.std.proofs.lemmas.List.{length-replicate}
use Rattle.std.proofs.lemmas.Nat.{mul-add-lt, shr-shr}
use Rattle.std.proofs.lemmas.Nat.Bits.{bit_at_or, bit_at_xor, bit_at-lt, bit_at-zero}
use Rattle.std.proofs.lemmas.Option.{slice_get-get_or}
use Rattle.mw_model.proofs.mw_facts.Elements.{get_or-replicate_same}
use Rattle.mw_model.specs.declared.offsets.Rect.{Rect}
use Rattle.mw_tile.specs.mw_pixel_words.Packed.{bit_of, stride_of}
use Rattle.mw_tile.proofs.mw_pixel_words.Bits.{bit_of_word}
use Rattle.mw_tile.proofs.mw_pixel_words.Funnels.{shl_high}
use Rattle.mw_tile_pieces.specs.Patches.{Patch, cell_of, patch}
use Rattle.mw_tile_pieces.specs.declared.blocks.Block.{Block}
use Rattle.mw_tile_pieces.specs.Blocks.{IsCommon, ReadsOnly}
use Rattle.mw_tile_pieces.specs.Laid.{IsLaid}
use Rattle.mw_tile_pieces.proofs.Pasted.{columns, leftmost}
use Rattle.mw_tile_pieces.proofs.WordRuns.{place_is}
use Rattle.mw_tile_pieces.proofs.Laid.{bits_shown, sample_at, IsWordsOf}

-- ---- one column of words

-- of the first n words a bit is v where the gathered bits have none there
abbrev pub Gathered : ℕ → ℕ → ℕ → (ℕ → ℕ) → Type 0
Gathered v others n word = (j : ℕ) → j < n → (b : ℕ) → b < 64 → bit_at others b ≡ 0 → bit_at (word j) b ≡ v

pub gathered_more : (v others pixels n : ℕ) (word : ℕ → ℕ) → ((b : ℕ) → b < 64 → bit_at pixels b ≡ v) → Gathered v others n word → Gathered v (bit_or others (bit_xor (word n) pixels)) (n + 1) word
gathered_more v others pixels n word pixels-are before j lt b less none =
    let both : max (bit_at others b) (bit_at (bit_xor (word n) pixels) b) ≡ 0 = sym (bit_at_or others (bit_xor (word n) pixels) b) ∙ none in
    elim (cases_lt j n) [
      | inl earlier ↦ before j earlier b less (omega (arith, both))
      | inr this ↦
          let j-is : j ≡ n = omega arith in
          ap (λ (t : ℕ). bit_at (word t) b) j-is
          ∙ alike (bit_at (word n) b) (bit_at pixels b) (bit_at-lt (word n) b) (bit_at-lt pixels b) (sym (bit_at_xor (word n) pixels b) ∙ omega (arith, both))
          ∙ pixels-are b less
    ]
  where
    alike : (p q : ℕ) → p < 2 → q < 2 → (p + q) % 2 ≡ 0 → p ≡ q
    alike p q p-lt q-lt even = omega arith

pub column_is_only : (b : Block) (v others n : ℕ) (from : List ℕ) → b.own % 64 ≡ 0 → b.first % 64 + b.width ≤ 64 → b.high ≤ n → Gathered v others n (λ j. get_or from (b.first / 64 + j * (b.own / 64)) 0)
    → others / 2 ^ (b.first % 64) * 2 ^ (64 - b.width) % 2 ^ 64 ≡ 0 → ReadsOnly b (bit_of from) v
column_is_only b v others n from whole there past gathered none i j lt less =
    let skip = b.first % 64 in
    let k = b.first / 64 + j * (b.own / 64) in
    let back : 64 - b.width + i - (64 - b.width) ≡ i = omega arith in
    let clear : bit_at others (skip + i) ≡ 0 =
    ap (λ (t : ℕ). t % 2) (sym (shr-shr others skip i))
    ∙ ap (bit_at (others / 2 ^ skip)) (sym back)
    ∙ sym (shl_high (others / 2 ^ skip) (64 - b.width) (64 - b.width + i) (omega arith) (omega arith))
    ∙ ap (λ (t : ℕ). bit_at t (64 - b.width + i)) none
    ∙ bit_at-zero (64 - b.width + i) in
    bit_of_word from k (skip + i) (b.first + (j * b.own + i)) (omega arith) (omega (arith, place_is b.first b.own j whole)) ∙ gathered j (omega arith) (skip + i) (omega arith) clear

-- ---- column by column

pub only_right : {B : Type 0} (b : Block) (n m : ℕ) (from : ℕ → B) (v : B) → ReadsOnly (columns b n m) from v → ReadsOnly (leftmost b n) from v → ReadsOnly (leftmost b (n + m)) from v
only_right b n m from v part before i j lt less = elim (cases_lt i n) [
  | inl earlier ↦ before i j earlier less
  | inr past ↦ let place : b.first + (j * b.own + i) ≡ b.first + n + (j * b.own + (i - n)) = omega arith in ap from place ∙ part (i - n) j (omega arith) less
]

-- ---- pieces

-- laying the piece changes nothing where all cells are v already
pub only_laid : (r held : Rect) (p : Patch ℕ) (b : Block) (v : ℕ) (from : List ℕ) → held ≡ p.place → IsCommon r held (64 * stride_of r.width) (64 * stride_of held.width) b → IsWordsOf p from → ReadsOnly b (bit_of from) v
    → IsLaid r p (replicate (r.height * r.width) v) (replicate (r.height * r.width) v)
only_laid r held p b v from held-is common words only =
    let cells = replicate (r.height * r.width) v in
    let shown = bits_shown r held p b (λ (q : ℕ). v) (λ (q : ℕ). v) (bit_of from) held-is common (record { inside = λ i j lt less. sym (only i j lt less); outside = λ q none. refl }) in
    record {
      size = refl;
      shows = λ x y holds here.
          let left = holds.left in
          let right = holds.right in
          let top = holds.top in
          let bottom = holds.bottom in
          let k = (y - r.y) * r.width + (x - r.x) in
          ap (λ (t : List ℕ). cell_of (patch p.place t) x y) words.cells
          ∙ sample_at p.place from x y here
          ∙ ap Some (sym (shown.shows x y holds here) ∙ sym (get_or-replicate_same (r.height * r.width) k v))
          ∙ sym (slice_get-get_or cells k v (omega (arith, length-replicate (r.height * r.width) v, mul-add-lt (y - r.y) r.width (x - r.x) r.height (omega arith) (omega arith))));
      rest = λ x y holds none. refl;
    }
