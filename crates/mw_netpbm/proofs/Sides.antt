-- What is read has as many samples as was asked for, none over the maxval.
use Rattle.std.proofs.Common.{◌≡◌, ℕ, zero, suc, ◌+◌, ◌-◌, ◌*◌, ◌/◌, ◌%◌, ◌≤◌, Bool, cond, ltb, List, [], ◌∷◌, length, take, drop, Ok, Err, min, max, fold, refl, sym, ap, subst, ◌∙◌, arith, length-append, length-drop}
use Rattle.std.proofs.lemmas.Bool.{ltb-false, le-ltb}
use Rattle.std.proofs.lemmas.List.{length-take, take_all}
use Rattle.mw_model.proofs.mw_facts.Alls.{all-append, all-take}
use Rattle.mw_netpbm_plain.specs.declared.fault.ReadFault.TheVariants.{Short, Sample, Trailing}
use Rattle.mw_model.specs.NetpbmGrammar.{bits_of}
use Rattle.mw_netpbm.specs.Rasters.{grey8_at, grey16_at, two_byte_samples, row_bits, rows_bits, bits_in_raster}
use Rattle.mw_netpbm_plain.proofs.Sides.{guard_ok, ok_is, Within}

pub fold_bound : (xs : List ℕ) (a m : ℕ) → fold max a xs ≤ m → (a ≤ m) × Within m xs
fold_bound [] a m h = (h, tt)
fold_bound (x ∷ xs) a m h = let ih = fold_bound xs (max a x) m h in (omega (arith, ih.0), (omega (arith, ih.0), ih.1))

pub grey8_ok : (count m : ℕ) (bytes xs : List ℕ) → grey8_at count m bytes ≡ Ok xs → (bytes ≡ xs) × (length xs ≡ count) × Within m xs
unfolding grey8_at
grey8_ok count m bytes xs e =
    let a = guard_ok (ltb (length bytes) count) Short (cond (ltb m (fold max 0 (take count bytes))) (Err Sample) (cond (ltb count (length bytes)) (Err Trailing) (Ok (take count bytes)))) xs e in
    let b = guard_ok (ltb m (fold max 0 (take count bytes))) Sample (cond (ltb count (length bytes)) (Err Trailing) (Ok (take count bytes))) xs a.1 in
    let c = guard_ok (ltb count (length bytes)) Trailing (Ok (take count bytes)) xs b.1 in
    let same = ok_is (take count bytes) xs c.1 in
    let l1 : count ≤ length bytes = ltb-false _ _ a.0 in
    let l2 : length bytes ≤ count = ltb-false _ _ c.0 in
    let low : fold max 0 (take count bytes) ≤ m = ltb-false _ _ b.0 in
    let all : take count bytes ≡ bytes = take_all count bytes l2 in
    (sym all ∙ same, omega (arith, ap length same, length-take count bytes), subst (λ ys. Within m ys) same (fold_bound (take count bytes) 0 m low).1)

pub words_length : (n : ℕ) (bytes : List ℕ) → length bytes ≡ n + n → length (two_byte_samples bytes) ≡ n
unfolding two_byte_samples
words_length zero [] e = refl
words_length zero (b ∷ bs) e = absurd (omega (arith, e))
words_length (suc n) [] e = absurd (omega (arith, e))
words_length (suc n) (b ∷ []) e = absurd (omega (arith, e))
words_length (suc n) (a ∷ b ∷ bs) e = ap suc (words_length n bs (omega (arith, e)))

bit_within : (n : ℕ) → n % 2 ≤ 1
bit_within n = omega arith

pub bits_within : (b : ℕ) → Within 1 (bits_of b)
unfolding bits_of
bits_within b = (bit_within (b / 128), (bit_within (b / 64), (bit_within (b / 32), (bit_within (b / 16), (bit_within (b / 8), (bit_within (b / 4), (bit_within (b / 2), (bit_within b, tt))))))))

pub row_within : (left : ℕ) (bytes : List ℕ) → Within 1 (row_bits left bytes)
unfolding row_bits
row_within left [] = tt
row_within left (b ∷ bs) = all-append (λ s. s ≤ 1) (take (min left 8) (bits_of b)) (row_bits (left - 8) bs) (all-take (λ s. s ≤ 1) (min left 8) (bits_of b) (bits_within b)) (row_within (left - 8) bs)

pub bits_length : (b : ℕ) → length (bits_of b) ≡ 8
unfolding bits_of
bits_length b = refl

pub row_length : (left : ℕ) (bytes : List ℕ) → left ≤ 8 * length bytes → length (row_bits left bytes) ≡ left
unfolding row_bits
row_length left [] h = omega (arith, h)
row_length left (b ∷ bs) h =
    let ih = row_length (left - 8) bs (omega (arith, h)) in
    omega (arith, ih, length-append (take (min left 8) (bits_of b)) (row_bits (left - 8) bs), length-take (min left 8) (bits_of b), bits_length b)

pub rows_within : (width height : ℕ) (bytes : List ℕ) → Within 1 (rows_bits width height bytes)
unfolding rows_bits
rows_within width zero bytes = tt
rows_within width (suc height) bytes = all-append (λ s. s ≤ 1) (row_bits width (take ((width + 7) / 8) bytes)) (rows_bits width height (drop ((width + 7) / 8) bytes)) (row_within width (take ((width + 7) / 8) bytes)) (rows_within width height (drop ((width + 7) / 8) bytes))

pub rows_length : (width height : ℕ) (bytes : List ℕ) → height * ((width + 7) / 8) ≤ length bytes → length (rows_bits width height bytes) ≡ height * width
unfolding rows_bits
rows_length width zero bytes h = omega arith
rows_length width (suc height) bytes h =
    let stride = (width + 7) / 8 in
    let front : length (take stride bytes) ≡ stride = omega (arith, length-take stride bytes, h) in
    let row = row_length width (take stride bytes) (omega (arith, front)) in
    let ih = rows_length width height (drop stride bytes) (omega (arith, length-drop stride bytes, h)) in
    omega (arith, row, ih, length-append (row_bits width (take stride bytes)) (rows_bits width height (drop stride bytes)))

pub grey16_ok : (count m : ℕ) (bytes xs : List ℕ) → grey16_at count m bytes ≡ Ok xs → (length bytes ≡ 2 * count) × (two_byte_samples bytes ≡ xs) × (length xs ≡ count) × Within m xs
unfolding grey16_at
grey16_ok count m bytes xs e =
    let n : ℕ = 2 * count in
    let a = guard_ok (ltb (length bytes) n) Short (cond (ltb m (fold max 0 (two_byte_samples (take n bytes)))) (Err Sample) (cond (ltb n (length bytes)) (Err Trailing) (Ok (two_byte_samples (take n bytes))))) xs e in
    let b = guard_ok (ltb m (fold max 0 (two_byte_samples (take n bytes)))) Sample (cond (ltb n (length bytes)) (Err Trailing) (Ok (two_byte_samples (take n bytes)))) xs a.1 in
    let c = guard_ok (ltb n (length bytes)) Trailing (Ok (two_byte_samples (take n bytes))) xs b.1 in
    let same = ok_is (two_byte_samples (take n bytes)) xs c.1 in
    let l1 : n ≤ length bytes = ltb-false _ _ a.0 in
    let l2 : length bytes ≤ n = ltb-false _ _ c.0 in
    let low : fold max 0 (two_byte_samples (take n bytes)) ≤ m = ltb-false _ _ b.0 in
    let all : two_byte_samples (take n bytes) ≡ two_byte_samples bytes = ap two_byte_samples (take_all n bytes l2) in
    let long : length bytes ≡ count + count = omega arith in
    let whole : two_byte_samples bytes ≡ xs = sym all ∙ same in
    (omega arith, whole, ap length (sym whole) ∙ words_length count bytes long, subst (λ ys. Within m ys) same (fold_bound (two_byte_samples (take n bytes)) 0 m low).1)

pub bits_whole : (width height : ℕ) (bytes : List ℕ) → height * ((width + 7) / 8) ≤ length bytes → length bytes ≤ height * ((width + 7) / 8) → bits_in_raster width height bytes ≡ Ok (rows_bits width height bytes)
unfolding bits_in_raster
bits_whole width height bytes enough no_more =
    let n : ℕ = height * ((width + 7) / 8) in
    ap (λ (b : Bool). cond b (Err Short) (cond (ltb n (length bytes)) (Err Trailing) (Ok (rows_bits width height bytes)))) (le-ltb (length bytes) n enough)
    ∙ ap (λ (b : Bool). cond b (Err Trailing) (Ok (rows_bits width height bytes))) (le-ltb n (length bytes) no_more)

pub bits_ok : (width height : ℕ) (bytes xs : List ℕ) → bits_in_raster width height bytes ≡ Ok xs → (length bytes ≡ height * ((width + 7) / 8)) × (rows_bits width height bytes ≡ xs) × (length xs ≡ height * width) × Within 1 xs
unfolding bits_in_raster
bits_ok width height bytes xs e =
    let n : ℕ = height * ((width + 7) / 8) in
    let a = guard_ok (ltb (length bytes) n) Short (cond (ltb n (length bytes)) (Err Trailing) (Ok (rows_bits width height bytes))) xs e in
    let c = guard_ok (ltb n (length bytes)) Trailing (Ok (rows_bits width height bytes)) xs a.1 in
    let same = ok_is (rows_bits width height bytes) xs c.1 in
    let l1 : n ≤ length bytes = ltb-false _ _ a.0 in
    let l2 : length bytes ≤ n = ltb-false _ _ c.0 in
    (omega arith, same, ap length (sym same) ∙ rows_length width height bytes l1, subst (λ ys. Within 1 ys) same (rows_within width height bytes))
