-- Rasters that are read and written block by block.
use Rattle.std.proofs.Common.{◌≡◌, ℕ, zero, suc, ◌+◌, ◌-◌, ◌*◌, ◌≤◌, List, [], ◌∷◌, ◌++◌, length, take, drop, min, replicate, refl, sym, ap, ◌∙◌, arith, append_assoc, length-append, ◌/◌}
use Rattle.std.specs.List.{flat_map}
use Rattle.std.proofs.lemmas.Grind.{flat_map-append}
use Rattle.std.proofs.lemmas.List.{append-nil, take-append-drop, drop-drop, drop-take, get_or-take, length-take-le, take_at, drop_at}
use Rattle.mw_model.specs.NetpbmGrammar.{bits_of}
use Rattle.mw_model.specs.NetpbmWriting.{byte_of, packed, two_bytes}
use Rattle.mw_netpbm.specs.Rasters.{row_bits, two_byte_samples}
use Rattle.mw_netpbm_plain.specs.SetWords.{in_words}
use Rattle.mw_netpbm.specs.SetWords.{pixels_of}
use Rattle.mw_netpbm_plain.proofs.InWords.{words_append, words_zeros, words_taken}
use Rattle.mw_netpbm.proofs.Lanes.{words_split}
use Rattle.mw_netpbm.proofs.Sides.{row_within, bits_length}
use Rattle.mw_netpbm.proofs.Turning.{length-pixels}

-- a block that begins what is left
one_block : (out new block rest left total : List ℕ) → left ≡ block ++ rest → out ++ left ≡ total → new ≡ out ++ block → new ++ rest ≡ total
one_block out new block rest left total parts so_far e = rw (e, append_assoc) (ap (λ (xs : List ℕ). out ++ xs) (sym parts) ∙ so_far)

pub words_block : (out new block bytes front after total : List ℕ) → 64 ≤ length bytes → front ≡ take 64 bytes → after ≡ drop 64 bytes → block ≡ two_byte_samples front → out ++ two_byte_samples bytes ≡ total → new ≡ out ++ block
    → new ++ two_byte_samples after ≡ total
words_block out new block bytes front after total le front-is after-is is so_far e =
    let parts : two_byte_samples bytes ≡ block ++ two_byte_samples after = rw (is, front-is, after-is) (words_split 32 bytes le) in
    one_block out new block (two_byte_samples after) (two_byte_samples bytes) total parts so_far e

pub bytes_block : (out new block samples front after total : List ℕ) → front ≡ take 32 samples → after ≡ drop 32 samples → block ≡ flat_map two_bytes front → out ++ flat_map two_bytes samples ≡ total → new ≡ out ++ block
    → new ++ flat_map two_bytes after ≡ total
bytes_block out new block samples front after total front-is after-is is so_far e =
    let parts : flat_map two_bytes samples ≡ block ++ flat_map two_bytes after =
    rw (is, front-is, after-is) (ap (flat_map two_bytes) (sym (take-append-drop 32 samples)) ∙ flat_map-append two_bytes (take 32 samples) (drop 32 samples)) in
    one_block out new block (flat_map two_bytes after) (flat_map two_bytes samples) total parts so_far e

-- whole bytes of a row
pub whole_byte : (left b : ℕ) → 8 ≤ left → take (min left 8) (bits_of b) ≡ bits_of b
unfolding bits_of
whole_byte left b le = let m : min left 8 ≡ 8 = omega arith in ap (λ n. take n (bits_of b)) m

row_split : (n left : ℕ) (bytes : List ℕ) → n ≤ length bytes → 8 * n ≤ left → row_bits left bytes ≡ flat_map bits_of (take n bytes) ++ row_bits (left - 8 * n) (drop n bytes)
unfolding row_bits
row_split zero left bytes le room = ap (λ n. row_bits n bytes) (let e : left ≡ left - 8 * 0 = omega arith in e)
row_split (suc n) left [] le room = absurd (omega arith)
row_split (suc n) left (b ∷ bs) le room =
    let rest : left - 8 * suc n ≡ left - 8 - 8 * n = omega arith in
    rw (rest, whole_byte left b (omega arith), row_split n (left - 8) bs (omega arith) (omega arith)) (sym (append_assoc (bits_of b) (flat_map bits_of (take n bs)) (row_bits (left - 8 - 8 * n) (drop n bs))))

flat_length : (bytes : List ℕ) → length (flat_map bits_of bytes) ≡ 8 * length bytes
flat_length [] = refl
flat_length (b ∷ bs) = omega (arith, length-append (bits_of b) (flat_map bits_of bs), bits_length b, flat_length bs)

-- the words of 64 bytes of a row that is read
pub set_block : (out new block bytes front after total : List ℕ) (left : ℕ) → 64 ≤ length bytes → 512 ≤ left → front ≡ take 64 bytes → after ≡ drop 64 bytes → block ≡ in_words 8 (flat_map bits_of front) → out ++ in_words ((left + 63) / 64) (row_bits left bytes) ≡ total → new ≡ out ++ block
    → new ++ in_words ((left - 512 + 63) / 64) (row_bits (left - 512) after) ≡ total
set_block out new block bytes front after total left le room front-is after-is is so_far e =
    let m = (left - 512 + 63) / 64 in
    let count : (left + 63) / 64 ≡ 8 + (left - 512 + 63) / 64 = omega arith in
    let size : length (flat_map bits_of (take 64 bytes)) ≡ 64 * 8 = omega (arith, flat_length (take 64 bytes), length-take-le 64 bytes le) in
    let rest = row_bits (left - 512) (drop 64 bytes) in
    let parts : in_words ((left + 63) / 64) (row_bits left bytes) ≡ block ++ in_words m (row_bits (left - 512) after) =
    ap (λ (n : ℕ). in_words n (row_bits left bytes)) count
    ∙ ap (in_words (8 + m)) (row_split 64 left bytes le room)
    ∙ words_append 8 m (flat_map bits_of (take 64 bytes)) rest size
    ∙ ap (λ (bs : List ℕ). in_words 8 (flat_map bits_of bs) ++ in_words m rest) (sym front-is)
    ∙ ap (λ (ws : List ℕ). ws ++ in_words m rest) (sym is)
    ∙ ap (λ (bs : List ℕ). block ++ in_words m (row_bits (left - 512) bs)) (sym after-is) in
    one_block out new block (in_words m (row_bits (left - 512) after)) (in_words ((left + 63) / 64) (row_bits left bytes)) total parts so_far e

pub no_more : (out rest total : List ℕ) (left : ℕ) → left ≤ 0 → out ++ in_words ((left + 63) / 64) (row_bits left rest) ≡ total → out ≡ total
unfolding in_words
no_more out rest total left le so_far =
    let none : 0 ≡ left = omega arith in
    sym (append-nil out) ∙ ap (λ (n : ℕ). out ++ in_words ((n + 63) / 64) (row_bits n rest)) none ∙ so_far

-- the words of a row's last pixels, which stand in a block with blank pixels behind them
pub rest_words : (left : ℕ) (rest block words : List ℕ) → left ≤ 512 → flat_map bits_of block ≡ row_bits left rest ++ replicate (512 - left) 0 → words ≡ in_words 8 (flat_map bits_of block)
    → take ((left + 63) / 64) words ≡ in_words ((left + 63) / 64) (row_bits left rest)
rest_words left rest block words le block-is is =
    let k = (left + 63) / 64 in
    let few : (left + 63) / 64 ≤ 8 = omega arith in
    ap (take k) (is ∙ ap (in_words 8) block-is ∙ words_zeros 8 (512 - left) (row_bits left rest) (row_within left rest)) ∙ words_taken k 8 (row_bits left rest) few

-- whole eights of a row's pixels
first_byte : (n : ℕ) (bits : List ℕ) → 8 ≤ n → byte_of (take n bits) ≡ byte_of bits
first_byte n bits le =
    rw (
      get_or-take n bits 0 0 (omega arith),
      get_or-take n bits 1 0 (omega arith),
      get_or-take n bits 2 0 (omega arith),
      get_or-take n bits 3 0 (omega arith),
      get_or-take n bits 4 0 (omega arith),
      get_or-take n bits 5 0 (omega arith),
      get_or-take n bits 6 0 (omega arith),
      get_or-take n bits 7 0 (omega arith),
    ) refl

packed_split : (n left : ℕ) (bits : List ℕ) → n ≤ left → packed left bits ≡ packed n (take (8 * n) bits) ++ packed (left - n) (drop (8 * n) bits)
unfolding packed
packed_split zero left bits le = ap (λ n. packed n bits) (let e : left ≡ left - 0 = omega arith in e)
packed_split (suc n) zero bits le = absurd (omega arith)
packed_split (suc n) (suc left) bits le =
    let count : 8 * suc n ≡ 8 + 8 * n = omega arith in
    let rest : suc left - suc n ≡ left - n = omega arith in
    rw (count, rest, first_byte (8 + 8 * n) bits (omega arith), drop-take 8 (8 * n) bits, ← drop-drop (8 * n) 8 bits) (ap (λ (bs : List ℕ). byte_of bits ∷ bs) (packed_split n left (drop 8 bits) (omega arith)))

-- the bytes of eight words of a row that is written
pub packed_words : (out new block words front after total : List ℕ) (left : ℕ) → 64 ≤ left → 8 ≤ length words → front ≡ take 8 words → after ≡ drop 8 words → block ≡ packed 64 (flat_map pixels_of front) → out ++ packed left (flat_map pixels_of words) ≡ total → new ≡ out ++ block
    → new ++ packed (left - 64) (flat_map pixels_of after) ≡ total
packed_words out new block words front after total left le room front-is after-is is so_far e =
    let size : length (flat_map pixels_of (take 8 words)) ≡ 8 * 64 = omega (arith, length-pixels (take 8 words), length-take-le 8 words room) in
    let whole : flat_map pixels_of words ≡ flat_map pixels_of (take 8 words) ++ flat_map pixels_of (drop 8 words) =
    ap (flat_map pixels_of) (sym (take-append-drop 8 words)) ∙ flat_map-append pixels_of (take 8 words) (drop 8 words) in
    let first : take (8 * 64) (flat_map pixels_of words) ≡ flat_map pixels_of front =
    ap (take (8 * 64)) whole ∙ take_at (flat_map pixels_of (take 8 words)) (flat_map pixels_of (drop 8 words)) (8 * 64) size ∙ ap (flat_map pixels_of) (sym front-is) in
    let others : drop (8 * 64) (flat_map pixels_of words) ≡ flat_map pixels_of after =
    ap (drop (8 * 64)) whole ∙ drop_at (flat_map pixels_of (take 8 words)) (flat_map pixels_of (drop 8 words)) (8 * 64) size ∙ ap (flat_map pixels_of) (sym after-is) in
    let parts : packed left (flat_map pixels_of words) ≡ block ++ packed (left - 64) (flat_map pixels_of after) =
    packed_split 64 left (flat_map pixels_of words) le
    ∙ ap (λ (bs : List ℕ). packed 64 bs ++ packed (left - 64) (drop (8 * 64) (flat_map pixels_of words))) first
    ∙ ap (λ (bs : List ℕ). packed 64 (flat_map pixels_of front) ++ packed (left - 64) bs) others
    ∙ ap (λ (bs : List ℕ). bs ++ packed (left - 64) (flat_map pixels_of after)) (sym is) in
    one_block out new block (packed (left - 64) (flat_map pixels_of after)) (packed left (flat_map pixels_of words)) total parts so_far e
