-- A row's bytes with their spare bits cleared.
use Rattle.std.proofs.Common.{◌≡◌, ℕ, zero, suc, ◌+◌, ◌-◌, ◌*◌, ◌/◌, ◌%◌, ◌^◌, ◌<◌, Bool, true, false, ◌&&◌, eqb, List, [], ◌∷◌, ◌++◌, length, take, replicate, set, get_or, min, refl, sym, ap, ◌∙◌, arith, append_assoc, inl, inr, w8, Fits}
use Rattle.std.specs.List.{AllByRecursion, flat_map}
use Rattle.std.proofs.lemmas.List.{append-nil, replicate-append-replicate}
use Rattle.mw_model.proofs.mw_facts.Numbers.{below_or_last}
use Rattle.mw_model.specs.NetpbmGrammar.{bits_of}
use Rattle.mw_netpbm.specs.Rasters.{row_bits}
use Rattle.mw_netpbm.proofs.Chunks.{whole_byte}
use Rattle.mw_netpbm.proofs.Turning.{both_true, same_numbers}

-- ---- one byte

-- so many of its lowest bits cleared
abbrev pub cut : ℕ → ℕ → ℕ
cut spare b = b / 2 ^ spare * 2 ^ spare % 2 ^ 8

abbrev same_list : List ℕ → List ℕ → Bool
same_list [] [] = true
same_list [] (y ∷ ys) = false
same_list (x ∷ xs) [] = false
same_list (x ∷ xs) (y ∷ ys) = eqb x y && same_list xs ys

same_lists : (xs ys : List ℕ) → same_list xs ys ≡ true → xs ≡ ys
same_lists [] [] h = refl
same_lists [] (y ∷ ys) h = absurd (let clash : false ≡ true = h in cc)
same_lists (x ∷ xs) [] h = absurd (let clash : false ≡ true = h in cc)
same_lists (x ∷ xs) (y ∷ ys) h =
    let both = both_true (eqb x y) (same_list xs ys) h in
    ap (λ (k : ℕ). k ∷ xs) (same_numbers x y both.0) ∙ ap (λ (zs : List ℕ). y ∷ zs) (same_lists xs ys both.1)

-- the bits that are left of a byte
abbrev left_of : ℕ → ℕ → List ℕ
left_of spare b = take (8 - spare) (bits_of b) ++ replicate spare 0

abbrev all_cut : ℕ → ℕ → Bool
all_cut spare zero = true
all_cut spare (suc n) = same_list (bits_of (cut spare n)) (left_of spare n) && all_cut spare n

cut_below : (spare n b : ℕ) → b < n → all_cut spare n ≡ true → bits_of (cut spare b) ≡ left_of spare b
cut_below spare zero b lt all = absurd (omega arith)
cut_below spare (suc n) b lt all =
    let both = both_true (same_list (bits_of (cut spare n)) (left_of spare n)) (all_cut spare n) all in
    elim (below_or_last n b (omega arith)) [
      | inl less ↦ cut_below spare n b less both.1
      | inr last ↦
          ap (λ (k : ℕ). bits_of (cut spare k)) last ∙ same_lists (bits_of (cut spare n)) (left_of spare n) both.0 ∙ ap (left_of spare) (sym last)
    ]

cut_byte : (spare b : ℕ) → spare < 8 → b < 256 → bits_of (cut spare b) ≡ left_of spare b
unfolding bits_of
cut_byte zero b few lt = cut_below 0 256 b lt refl
cut_byte (suc zero) b few lt = cut_below 1 256 b lt refl
cut_byte (suc (suc zero)) b few lt = cut_below 2 256 b lt refl
cut_byte (suc (suc (suc zero))) b few lt = cut_below 3 256 b lt refl
cut_byte (suc (suc (suc (suc zero)))) b few lt = cut_below 4 256 b lt refl
cut_byte (suc (suc (suc (suc (suc zero))))) b few lt = cut_below 5 256 b lt refl
cut_byte (suc (suc (suc (suc (suc (suc zero)))))) b few lt = cut_below 6 256 b lt refl
cut_byte (suc (suc (suc (suc (suc (suc (suc zero))))))) b few lt = cut_below 7 256 b lt refl
cut_byte (suc (suc (suc (suc (suc (suc (suc (suc spare)))))))) b few lt = absurd (omega arith)

-- ---- a row

pub bytes_small : (row : List ℕ) → ((i : ℕ) → Fits w8 (get_or row i 0)) → AllByRecursion (λ b. b < 256) row
bytes_small [] fits = tt
bytes_small (b ∷ bs) fits = ((fits 0).fits, bytes_small bs (λ i. fits (suc i)))

blank : (k : ℕ) → flat_map bits_of (replicate k 0) ≡ replicate (8 * k) 0
unfolding bits_of
blank zero = refl
blank (suc k) =
    let count : 8 + 8 * k ≡ 8 * suc k = omega arith in
    ap (λ (bs : List ℕ). replicate 8 0 ++ bs) (blank k) ∙ replicate-append-replicate 8 (8 * k) 0 ∙ ap (λ (n : ℕ). replicate n 0) count

pub cut_row : (row : List ℕ) (left spare k i : ℕ) → suc i ≡ length row → length row ≡ (left + 7) / 8 → left + spare ≡ 8 * length row → AllByRecursion (λ b. b < 256) row
    → flat_map bits_of (set (row ++ replicate k 0) i (cut spare (get_or (row ++ replicate k 0) i 0))) ≡ row_bits left row ++ replicate (spare + 8 * k) 0
unfolding row_bits
cut_row [] left spare k i last size whole small = absurd (omega arith)
cut_row (b ∷ []) left spare k zero last size whole small =
    let few : spare < 8 = omega arith in
    let count : 8 - spare ≡ min left 8 = omega arith in
    let row = take (min left 8) (bits_of b) in
    ap (λ (bs : List ℕ). bs ++ flat_map bits_of (replicate k 0)) (cut_byte spare b few small.0)
    ∙ ap (λ (n : ℕ). (take n (bits_of b) ++ replicate spare 0) ++ flat_map bits_of (replicate k 0)) count
    ∙ ap (λ (bs : List ℕ). (row ++ replicate spare 0) ++ bs) (blank k)
    ∙ append_assoc row (replicate spare 0) (replicate (8 * k) 0)
    ∙ ap (λ (bs : List ℕ). row ++ bs) (replicate-append-replicate spare (8 * k) 0)
    ∙ ap (λ (bs : List ℕ). bs ++ replicate (spare + 8 * k) 0) (sym (append-nil row))
cut_row (b ∷ []) left spare k (suc i) last size whole small = absurd (omega arith)
cut_row (a ∷ b ∷ bs) left spare k zero last size whole small = absurd (omega arith)
cut_row (a ∷ b ∷ bs) left spare k (suc i) last size whole small =
    let first : take (min left 8) (bits_of a) ≡ bits_of a = whole_byte left a (omega arith) in
    let zeros = replicate (spare + 8 * k) 0 in
    let others = row_bits (left - 8) (b ∷ bs) in
    ap (λ (xs : List ℕ). bits_of a ++ xs) (cut_row (b ∷ bs) (left - 8) spare k i (omega arith) (omega arith) (omega arith) small.1)
    ∙ sym (append_assoc (bits_of a) others zeros)
    ∙ ap (λ (xs : List ℕ). (xs ++ others) ++ zeros) (sym first)
