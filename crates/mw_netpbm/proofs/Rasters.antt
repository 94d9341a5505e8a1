-- What is read of a raster is what the bytes spell, and what they spell is read.
use Rattle.std.proofs.Common.{◌≡◌, ℕ, zero, suc, ◌+◌, ◌-◌, ◌*◌, ◌/◌, List, [], ◌∷◌, ◌++◌, length, take, drop, min, refl, sym, ap, subst, ◌∙◌, arith, inl, inr, length-append, length-drop}
use Rattle.std.specs.List.{flat_map}
use Rattle.std.proofs.Math.Seq.{take-append-add}
use Rattle.std.proofs.lemmas.Bool.{cases_lt}
use Rattle.std.proofs.lemmas.List.{append-nil, nil_from_length, take_all, take_at, drop_at, take-append-drop, length-take-le, take-append-le}
use Rattle.mw_model.specs.NetpbmGrammar.{bits_of, IsPairs, IsRows}
use Rattle.mw_netpbm.specs.Rasters.{two_byte_samples, row_bits, rows_bits}

-- ---- pairs

pub pairs_from : (n : ℕ) (bytes xs : List ℕ) → length bytes ≡ n + n → two_byte_samples bytes ≡ xs → IsPairs bytes xs
unfolding two_byte_samples
pairs_from zero [] xs len e = subst (λ (ys : List ℕ). IsPairs [] ys) e tt
pairs_from zero (b ∷ bs) xs len e = absurd (omega (arith, len))
pairs_from (suc n) [] xs len e = absurd (omega (arith, len))
pairs_from (suc n) (b ∷ []) xs len e = absurd (omega (arith, len))
pairs_from (suc n) (a ∷ b ∷ bs) xs len e = subst (λ (ys : List ℕ). IsPairs (a ∷ b ∷ bs) ys) e (refl, pairs_from n bs (two_byte_samples bs) (omega (arith, len)) refl)

pub pairs_words : (bytes xs : List ℕ) → IsPairs bytes xs → (two_byte_samples bytes ≡ xs) × (length bytes ≡ 2 * length xs)
unfolding two_byte_samples
pairs_words [] [] h = (refl, refl)
pairs_words [] (s ∷ ss) h = absurd h
pairs_words (b ∷ []) [] h = absurd h
pairs_words (b ∷ []) (s ∷ ss) h = absurd h
pairs_words (a ∷ b ∷ bs) [] h = absurd h
pairs_words (a ∷ b ∷ bs) (s ∷ ss) h =
    let more = pairs_words bs ss h.1 in
    (rw h.0 (ap (λ (ys : List ℕ). (a * 256 + b) ∷ ys) more.0), omega (arith, more.1))

-- ---- rows

take_over : (n : ℕ) (xs ys : List ℕ) → take n (xs ++ ys) ≡ take (min n (length xs)) xs ++ take (n - length xs) ys
take_over n xs ys =
    elim (cases_lt n (length xs)) [
      | inl lt ↦
          let m : min n (length xs) ≡ n = omega arith in
          let z : n - length xs ≡ 0 = omega arith in
          rw (m, z, take-append-le n xs ys (omega arith)) (sym (append-nil (take n xs)))
      | inr le ↦
          let m : min n (length xs) ≡ length xs = omega arith in
          let k : n ≡ length xs + (n - length xs) = omega arith in
          let over : take n (xs ++ ys) ≡ xs ++ take (n - length xs) ys = ap (λ i. take i (xs ++ ys)) k ∙ take-append-add xs ys (n - length xs) in
          over ∙ ap (λ (zs : List ℕ). zs ++ take (n - length xs) ys) (sym (ap (λ i. take i xs) m ∙ take_all (length xs) xs (omega arith)))
    ]

pub row_is : (width : ℕ) (row : List ℕ) → row_bits width row ≡ take width (flat_map bits_of row)
unfolding row_bits bits_of
row_is zero [] = refl
row_is (suc width) [] = refl
row_is width (b ∷ bs) =
    ap (λ (r : List ℕ). take (min width 8) (bits_of b) ++ r) (row_is (width - 8) bs) ∙ sym (take_over width (bits_of b) (flat_map bits_of bs))

pub rows_from : (width height : ℕ) (bytes : List ℕ) → length bytes ≡ height * ((width + 7) / 8) → IsRows width height bytes (rows_bits width height bytes)
unfolding rows_bits
rows_from width zero bytes len = (nil_from_length bytes (omega (arith, len)), refl)
rows_from width (suc height) bytes len =
    let stride = (width + 7) / 8 in
    let front : length (take stride bytes) ≡ stride = length-take-le stride bytes (omega (arith, len)) in (
      take stride bytes,
      drop stride bytes,
      rows_bits width height (drop stride bytes),
      sym (take-append-drop stride bytes),
      front,
      ap (λ (r : List ℕ). r ++ rows_bits width height (drop stride bytes)) (row_is width (take stride bytes)),
      rows_from width height (drop stride bytes) (omega (arith, length-drop stride bytes, len)),
    )

pub rows_read : (width height : ℕ) (bytes xs : List ℕ) → IsRows width height bytes xs → (rows_bits width height bytes ≡ xs) × (length bytes ≡ height * ((width + 7) / 8))
unfolding rows_bits
rows_read width zero bytes xs h = (sym h.1, ap length h.0 ∙ omega arith)
rows_read width (suc height) bytes xs (row, rest, others, parts, len, is, more) =
    let stride = (width + 7) / 8 in
    let ih = rows_read width height rest others more in
    let t : take stride bytes ≡ row = ap (take stride) parts ∙ take_at row rest stride len in
    let d : drop stride bytes ≡ rest = ap (drop stride) parts ∙ drop_at row rest stride len in
    (rw (t, d, ih.0, row_is width row, is) refl, omega (arith, ih.1, len, ap length parts, length-append row rest))
