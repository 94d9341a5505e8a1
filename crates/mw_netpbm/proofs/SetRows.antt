-- Rows of words that are written as bytes.
use Rattle.std.proofs.Common.{◌≡◌, ℕ, zero, suc, ◌+◌, ◌-◌, ◌*◌, ◌/◌, ◌<◌, ◌≤◌, List, ◌∷◌, ◌++◌, length, take, drop, replicate, get_or, refl, sym, ap, ◌∙◌, arith, inl, inr, length-take}
use Rattle.std.specs.List.{flat_map}
use Rattle.std.proofs.lemmas.Bool.{cases_lt}
use Rattle.std.proofs.lemmas.List.{get_or-take, get_or-drop, get_or_past, drop-drop, take_all}
use Rattle.mw_model.specs.NetpbmWriting.{byte_of, packed, packed_rows}
use Rattle.mw_netpbm_plain.specs.mw_pixel_words.Packed.{bit_of}
use Rattle.mw_netpbm.specs.SetWords.{pixels_of}
use Rattle.mw_netpbm_plain.proofs.InWords.{bit_zeros}
use Rattle.mw_netpbm.proofs.Packing.{more_rows}
use Rattle.mw_netpbm.proofs.Turning.{word_pixels}

-- lists with the same pixels at all places, 0 behind their ends, are packed alike
packed_same : (n : ℕ) (xs ys : List ℕ) → ((i : ℕ) → get_or xs i 0 ≡ get_or ys i 0) → packed n xs ≡ packed n ys
unfolding packed
packed_same zero xs ys same = refl
packed_same (suc n) xs ys same =
    let first : byte_of xs ≡ byte_of ys = rw (same 0, same 1, same 2, same 3, same 4, same 5, same 6, same 7) refl in
    ap (λ (b : ℕ). b ∷ packed n (drop 8 xs)) first
    ∙ ap (λ (bs : List ℕ). byte_of ys ∷ bs) (packed_same n (drop 8 xs) (drop 8 ys) (λ i. get_or-drop 8 xs i 0 ∙ same (8 + i) ∙ sym (get_or-drop 8 ys i 0)))

packed_taken : (k n : ℕ) (bits : List ℕ) → k ≤ n → take k (packed n bits) ≡ packed k bits
unfolding packed
packed_taken zero n bits le = refl
packed_taken (suc k) zero bits le = absurd (omega arith)
packed_taken (suc k) (suc n) bits le = ap (λ (bs : List ℕ). byte_of bits ∷ bs) (packed_taken k n (drop 8 bits) (omega arith))

-- the last bytes of a row, whose words stand in a block with words of 0 behind them
pub rest_bytes : (left k : ℕ) (rest block bytes : List ℕ) → left ≤ 64 → block ≡ rest ++ replicate k 0 → bytes ≡ packed 64 (flat_map pixels_of block) → take left bytes ≡ packed left (flat_map pixels_of rest)
rest_bytes left k rest block bytes le block-is is =
    ap (take left) (is ∙ ap (λ (ws : List ℕ). packed 64 (flat_map pixels_of ws)) block-is)
    ∙ packed_taken left 64 (flat_map pixels_of (rest ++ replicate k 0)) le
    ∙ packed_same left (flat_map pixels_of (rest ++ replicate k 0)) (flat_map pixels_of rest)
    (λ i. word_pixels (rest ++ replicate k 0) i ∙ bit_zeros rest k i ∙ sym (word_pixels rest i))

-- a row's words are packed as its pixels
pub row_bytes : (width count a : ℕ) (row cells : List ℕ) → ((x : ℕ) → x < width → bit_of row x ≡ get_or cells (a + x) 0) → ((x : ℕ) → width ≤ x → bit_of row x ≡ 0)
    → packed count (flat_map pixels_of row) ≡ packed count (take width (drop a cells))
row_bytes width count a row cells bits clean =
    packed_same count (flat_map pixels_of row) (take width (drop a cells))
    (λ i.
    word_pixels row i
    ∙ elim (cases_lt i width) [
      | inl inside ↦ bits i inside ∙ sym (get_or-take width (drop a cells) i 0 inside ∙ get_or-drop a cells i 0)
      | inr past ↦
          clean i past ∙ sym (get_or_past (take width (drop a cells)) i 0 (omega (arith, length-take width (drop a cells))))
    ])

pub one_row_more : (width height y : ℕ) (out new cells total : List ℕ) → y < height → out ++ packed_rows width (height - y) (drop (y * width) cells) ≡ total
    → new ≡ out ++ packed ((width + 7) / 8) (take width (drop (y * width) cells)) → new ++ packed_rows width (height - (y + 1)) (drop ((y + 1) * width) cells) ≡ total
one_row_more width height y out new cells total lt so_far e =
    let next : y * width + width ≡ (y + 1) * width = omega arith in
    ap (λ (n : ℕ). new ++ packed_rows width (height - (y + 1)) (drop n cells)) (sym next)
    ∙ ap (λ (bs : List ℕ). new ++ packed_rows width (height - (y + 1)) bs) (sym (drop-drop width (y * width) cells))
    ∙ more_rows width height y out new (drop (y * width) cells) total lt so_far e

-- the words of a set of one row are packed as its pixels
pub only_row : (width height count : ℕ) (row cells : List ℕ) → height ≡ 1 → length cells ≡ height * width → ((x : ℕ) → x < width → bit_of row x ≡ get_or cells (0 * width + x) 0) → ((x : ℕ) → width ≤ x → bit_of row x ≡ 0)
    → packed count (flat_map pixels_of row) ≡ packed count cells
only_row width height count row cells one size bits clean =
    let whole : length cells ≡ 1 * width = size ∙ ap (λ (n : ℕ). n * width) one in
    row_bytes width count (0 * width) row cells bits clean ∙ ap (λ (n : ℕ). packed count (take width (drop n cells))) (none width) ∙ ap (packed count) (take_all width cells (omega arith))
  where
    none : (n : ℕ) → 0 * n ≡ 0
    none n = omega arith
