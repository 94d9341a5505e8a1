-- Packing pixels into bytes.
use Rattle.std.proofs.Common.{◌≡◌, ℕ, zero, suc, ◌+◌, ◌-◌, ◌*◌, ◌/◌, ◌%◌, ◌<◌, ◌≤◌, List, [], ◌∷◌, ◌++◌, length, take, drop, min, refl, sym, ap, ◌∙◌, arith, append_assoc, length-drop}
use Rattle.std.proofs.lemmas.List.{take-append-drop, nil_from_length, length-take-le, append-nil}
use Rattle.mw_model.proofs.mw_facts.Alls.{all-take, all-drop}
use Rattle.mw_model.specs.NetpbmGrammar.{bits_of, IsRows}
use Rattle.mw_netpbm.specs.Rasters.{row_bits}
use Rattle.mw_model.specs.NetpbmWriting.{byte_of, packed, packed_rows}
use Rattle.mw_netpbm_plain.proofs.Sides.{Within}
use Rattle.mw_netpbm.proofs.Rasters.{row_is}

pub more_rows : (width height y : ℕ) (out new rest total : List ℕ) → y < height
    → out ++ packed_rows width (height - y) rest ≡ total
    → new ≡ out ++ packed ((width + 7) / 8) (take width rest)
    → new ++ packed_rows width (height - (y + 1)) (drop width rest) ≡ total
unfolding packed_rows
more_rows width height y out new rest total lt so_far e =
    let k : height - y ≡ suc (height - (y + 1)) = omega arith in
    let one : out ++ packed_rows width (suc (height - (y + 1))) rest ≡ total = ap (λ n. out ++ packed_rows width n rest) (sym k) ∙ so_far in
    rw (e, append_assoc) one

pub all_rows : (width height y : ℕ) (out rest total : List ℕ) → height ≤ y → out ++ packed_rows width (height - y) rest ≡ total → out ≡ total
unfolding packed_rows
all_rows width height y out rest total le so_far =
    let z : height - y ≡ 0 = omega arith in
    sym (append-nil out) ∙ ap (λ n. out ++ packed_rows width n rest) (sym z) ∙ so_far

-- ---- what is packed is spelled so

eight : (b0 b1 b2 b3 b4 b5 b6 b7 : ℕ) → b0 ≤ 1 → b1 ≤ 1 → b2 ≤ 1 → b3 ≤ 1 → b4 ≤ 1 → b5 ≤ 1 → b6 ≤ 1 → b7 ≤ 1
    → bits_of (128 * b0 + 64 * b1 + 32 * b2 + 16 * b3 + 8 * b4 + 4 * b5 + 2 * b6 + b7) ≡ b0 ∷ b1 ∷ b2 ∷ b3 ∷ b4 ∷ b5 ∷ b6 ∷ b7 ∷ []
unfolding bits_of
eight b0 b1 b2 b3 b4 b5 b6 b7 l0 l1 l2 l3 l4 l5 l6 l7 =
    let n = 128 * b0 + 64 * b1 + 32 * b2 + 16 * b3 + 8 * b4 + 4 * b5 + 2 * b6 + b7 in
    rw (
      (let e : n / 128 % 2 ≡ b0 = omega arith in e),
      (let e : n / 64 % 2 ≡ b1 = omega arith in e),
      (let e : n / 32 % 2 ≡ b2 = omega arith in e),
      (let e : n / 16 % 2 ≡ b3 = omega arith in e),
      (let e : n / 8 % 2 ≡ b4 = omega arith in e),
      (let e : n / 4 % 2 ≡ b5 = omega arith in e),
      (let e : n / 2 % 2 ≡ b6 = omega arith in e),
      (let e : n % 2 ≡ b7 = omega arith in e),
    ) refl

-- a row's byte spells the first eight pixels
first_byte : (bits : List ℕ) → Within 1 bits → take (min (length bits) 8) (bits_of (byte_of bits)) ≡ take 8 bits
first_byte [] w = ap (take 0) (eight 0 0 0 0 0 0 0 0 (omega arith) (omega arith) (omega arith) (omega arith) (omega arith) (omega arith) (omega arith) (omega arith))
first_byte (a ∷ []) w = ap (take 1) (eight a 0 0 0 0 0 0 0 w.0 (omega arith) (omega arith) (omega arith) (omega arith) (omega arith) (omega arith) (omega arith))
first_byte (a ∷ b ∷ []) w = ap (take 2) (eight a b 0 0 0 0 0 0 w.0 w.1.0 (omega arith) (omega arith) (omega arith) (omega arith) (omega arith) (omega arith))
first_byte (a ∷ b ∷ c ∷ []) w = ap (take 3) (eight a b c 0 0 0 0 0 w.0 w.1.0 w.1.1.0 (omega arith) (omega arith) (omega arith) (omega arith) (omega arith))
first_byte (a ∷ b ∷ c ∷ d ∷ []) w = ap (take 4) (eight a b c d 0 0 0 0 w.0 w.1.0 w.1.1.0 w.1.1.1.0 (omega arith) (omega arith) (omega arith) (omega arith))
first_byte (a ∷ b ∷ c ∷ d ∷ e ∷ []) w = ap (take 5) (eight a b c d e 0 0 0 w.0 w.1.0 w.1.1.0 w.1.1.1.0 w.1.1.1.1.0 (omega arith) (omega arith) (omega arith))
first_byte (a ∷ b ∷ c ∷ d ∷ e ∷ f ∷ []) w = ap (take 6) (eight a b c d e f 0 0 w.0 w.1.0 w.1.1.0 w.1.1.1.0 w.1.1.1.1.0 w.1.1.1.1.1.0 (omega arith) (omega arith))
first_byte (a ∷ b ∷ c ∷ d ∷ e ∷ f ∷ g ∷ []) w = ap (take 7) (eight a b c d e f g 0 w.0 w.1.0 w.1.1.0 w.1.1.1.0 w.1.1.1.1.0 w.1.1.1.1.1.0 w.1.1.1.1.1.1.0 (omega arith))
first_byte (a ∷ b ∷ c ∷ d ∷ e ∷ f ∷ g ∷ h ∷ bits) w =
    let m : min (length (a ∷ b ∷ c ∷ d ∷ e ∷ f ∷ g ∷ h ∷ bits)) 8 ≡ 8 = omega arith in
    ap (λ n. take n (bits_of (byte_of (a ∷ b ∷ c ∷ d ∷ e ∷ f ∷ g ∷ h ∷ bits)))) m
    ∙ ap (take 8) (eight a b c d e f g h w.0 w.1.0 w.1.1.0 w.1.1.1.0 w.1.1.1.1.0 w.1.1.1.1.1.0 w.1.1.1.1.1.1.0 w.1.1.1.1.1.1.1.0)

row_packed : (n : ℕ) (bits : List ℕ) → length bits ≤ 8 * n → Within 1 bits → row_bits (length bits) (packed n bits) ≡ bits
unfolding packed row_bits
row_packed zero bits le w = sym (nil_from_length bits (omega arith))
row_packed (suc n) bits le w =
    let len : length (drop 8 bits) ≡ length bits - 8 = length-drop 8 bits in
    let ih = row_packed n (drop 8 bits) (omega (arith, len)) (all-drop (λ s. s ≤ 1) 8 bits w) in
    rw (first_byte bits w, ← len, ih) (take-append-drop 8 bits)

pub packed_length : (n : ℕ) (bits : List ℕ) → length (packed n bits) ≡ n
unfolding packed
packed_length zero bits = refl
packed_length (suc n) bits = ap suc (packed_length n (drop 8 bits))

pub rows_packed : (width height : ℕ) (samples : List ℕ) → length samples ≡ height * width → Within 1 samples → IsRows width height (packed_rows width height samples) samples
unfolding packed_rows
rows_packed width zero samples len w = (refl, nil_from_length samples (omega (arith, len)))
rows_packed width (suc height) samples len w =
    let row = take width samples in
    let rest = drop width samples in
    let front : length row ≡ width = length-take-le width samples (omega (arith, len)) in
    let is : row_bits width (packed ((width + 7) / 8) row) ≡ row =
    ap (λ k. row_bits k (packed ((width + 7) / 8) row)) (sym front) ∙ row_packed ((width + 7) / 8) row (omega (arith, front)) (all-take (λ s. s ≤ 1) width samples w) in (
      packed ((width + 7) / 8) row,
      packed_rows width height rest,
      rest,
      refl,
      packed_length ((width + 7) / 8) row,
      sym (take-append-drop width samples) ∙ ap (λ (r : List ℕ). r ++ rest) (sym is ∙ row_is width (packed ((width + 7) / 8) row)),
      rows_packed width height rest (omega (arith, length-drop width samples, len)) (all-drop (λ s. s ≤ 1) width samples w),
    )
