-- Spectra by their volumes, and the text of a curve line by line.
use Rattle.std.proofs.Common.{◌≡◌, ℕ, zero, suc, ◌+◌, ◌-◌, ◌<◌, ◌≤◌, List, [], ◌∷◌, ◌++◌, length, get_or, refl, ap, arith, ◌∙◌}
use Rattle.std.specs.Prelude.{codes, decimal}
use Rattle.std.specs.List.{range_with_len, flat_map}
use Rattle.std.proofs.lemmas.List.FromFn.{length-map-range_with_len, get_or-map-range_with_len}
use Rattle.std.proofs.Math.Nat.{sub-zero}
use Rattle.mw_model.specs.declared.offsets.Offset.{Offset}
use Rattle.mw_model.specs.Pictures.{Picture}
use Rattle.mw_model.specs.Iterates.{volume, spectrum}
use Rattle.mw_model.specs.Curves.{line, volume_lines, fall_lines, rest_line}

pub length-spectrum : (b : List Offset) (depth : ℕ) (f : Picture) → length (spectrum b depth f) ≡ depth + 1
length-spectrum b depth f = length-map-range_with_len (λ n. volume b n f) 0 (depth + 1)

pub spectrum_at : (b : List Offset) (depth n : ℕ) (f : Picture) → n ≤ depth → get_or (spectrum b depth f) n 0 ≡ volume b n f
spectrum_at b depth n f le = get_or-map-range_with_len (λ n. volume b n f) 0 (depth + 1) n n 0 (omega arith) (omega arith)

-- a text that is equal at each number of a range, whatever the list
same_lines : (g h : ℕ → List ℕ) (a n : ℕ) → ((k : ℕ) → a ≤ k → k < a + n → g k ≡ h k) → flat_map g (range_with_len a n) ≡ flat_map h (range_with_len a n)
same_lines g h a zero each = refl
same_lines g h a (suc n) each =
    ap (λ (t : List ℕ). t ++ flat_map g (range_with_len (a + 1) n)) (each a (omega arith) (omega arith))
    ∙ ap (λ (t : List ℕ). h a ++ t) (same_lines g h (a + 1) n (λ k low high. each k (omega arith) (omega arith)))

get_or-next : (v : ℕ) (vs : List ℕ) (a k : ℕ) → a + 1 ≤ k → get_or vs (k - (a + 1)) 0 ≡ get_or (v ∷ vs) (k - a) 0
get_or-next v vs a k le = let e : k - a ≡ suc (k - (a + 1)) = omega arith in rw e refl

volumes_by_number : (a : ℕ) (vs : List ℕ) → volume_lines a vs ≡ flat_map (λ n. line (codes "V ") n (get_or vs (n - a) 0)) (range_with_len a (length vs))
volumes_by_number a [] = refl
volumes_by_number a (v ∷ vs) =
    let here : a - a ≡ 0 = omega arith in
    rw here (ap (λ (t : List ℕ). line (codes "V ") a v ++ t)
    (volumes_by_number (a + 1) vs
    ∙ same_lines (λ n. line (codes "V ") n (get_or vs (n - (a + 1)) 0)) (λ n. line (codes "V ") n (get_or (v ∷ vs) (n - a) 0)) (a + 1) (length vs)
    (λ k low high. ap (line (codes "V ") k) (get_or-next v vs a k low))))

pub volumes_by_line : (vs : List ℕ) → volume_lines 0 vs ≡ flat_map (λ n. line (codes "V ") n (get_or vs n 0)) (range_with_len 0 (length vs))
volumes_by_line vs =
    volumes_by_number 0 vs
    ∙ same_lines (λ n. line (codes "V ") n (get_or vs (n - 0) 0)) (λ n. line (codes "V ") n (get_or vs n 0)) 0 (length vs)
    (λ k low high. ap (λ (i : ℕ). line (codes "V ") k (get_or vs i 0)) (sub-zero k))

-- the fall from the volume behind the start by so many places
abbrev fall_at : List ℕ → ℕ → ℕ → ℕ
fall_at vs a n = get_or vs (n - a) 0 - get_or vs (n + 1 - a) 0

falls_by_number : (a : ℕ) (vs : List ℕ) → fall_lines a vs ≡ flat_map (λ n. line (codes "S ") n (fall_at vs a n)) (range_with_len a (length vs - 1))
falls_by_number a [] = refl
falls_by_number a (v ∷ []) = refl
falls_by_number a (v ∷ w ∷ vs) =
    let here : a - a ≡ 0 = omega arith in
    let there : a + 1 - a ≡ 1 = omega arith in
    let count : length (v ∷ w ∷ vs) - 1 ≡ suc (length vs) = omega arith in
    let count_too : length (w ∷ vs) - 1 ≡ length vs = omega arith in
    let rest : fall_lines (a + 1) (w ∷ vs) ≡ flat_map (λ n. line (codes "S ") n (fall_at (w ∷ vs) (a + 1) n)) (range_with_len (a + 1) (length vs)) =
    rw count_too at (falls_by_number (a + 1) (w ∷ vs)) in
    rw (count, here, there)
    (ap (λ (t : List ℕ). line (codes "S ") a (v - w) ++ t)
    (rest
    ∙ same_lines (λ n. line (codes "S ") n (fall_at (w ∷ vs) (a + 1) n)) (λ n. line (codes "S ") n (fall_at (v ∷ w ∷ vs) a n)) (a + 1) (length vs)
    (λ k low high. ap (line (codes "S ") k) (both (get_or-next v (w ∷ vs) a k low) (get_or-next v (w ∷ vs) a (k + 1) (omega arith))))))
  where
    both : {p q r s : ℕ} → p ≡ q → r ≡ s → p - r ≡ q - s
    both e d = cc

pub falls_by_line : (vs : List ℕ) → fall_lines 0 vs ≡ flat_map (λ n. line (codes "S ") n (get_or vs n 0 - get_or vs (n + 1) 0)) (range_with_len 0 (length vs - 1))
falls_by_line vs =
    falls_by_number 0 vs
    ∙ same_lines (λ n. line (codes "S ") n (fall_at vs 0 n)) (λ n. line (codes "S ") n (get_or vs n 0 - get_or vs (n + 1) 0)) 0 (length vs - 1)
    (λ k low high. ap (line (codes "S ") k) (both k))
  where
    both : (k : ℕ) → get_or vs (k - 0) 0 - get_or vs (k + 1 - 0) 0 ≡ get_or vs k 0 - get_or vs (k + 1) 0
    both k =
        let e : k - 0 ≡ k = omega arith in
        let d : k + 1 - 0 ≡ k + 1 = omega arith in
        rw (e, d) refl

pub rest_of_last : (vs : List ℕ) (v : ℕ) → rest_line (vs ++ v ∷ []) ≡ codes "R " ++ decimal v ++ 10 ∷ []
rest_of_last [] v = refl
rest_of_last (w ∷ []) v = refl
rest_of_last (w ∷ x ∷ vs) v = rest_of_last (x ∷ vs) v
