-- Rows of samples that are tested, and the words of the tests.
use Rattle.std.proofs.Common.{◌≡◌, ◌+◌, ◌-◌, ◌/◌, ◌%◌, ◌^◌, ◌<◌, ℕ, List, length, take, drop, map, get_or, slice_range, ap, sym, arith, ◌∙◌, inl, inr}
use Rattle.std.specs.Int.{bit_at}
use Rattle.std.proofs.lemmas.Bool.{cases_lt}
use Rattle.std.proofs.lemmas.List.{take-map, drop-map, length-map, get_or-take, get_or-drop, get_or_past}
use Rattle.std.proofs.lemmas.Nat.{shr-shr}
use Rattle.std.proofs.lemmas.Nat.Bits.{bit_at_above}

pub part_mapped : {A : Type 0} (f : A → ℕ) (xs : List A) (a b : ℕ) → map f (slice_range xs a b) ≡ slice_range (map f xs) a b
part_mapped f xs a b = sym (ap (take (b - a)) (drop-map f a xs) ∙ take-map f (b - a) (drop a xs))

-- 64 samples of a row
pub block_tested : {A : Type 0} (f : A → ℕ) (row : List A) (at m i : ℕ) → i < m → get_or (map f (take m (drop at row))) i 0 ≡ get_or (map f row) (at + i) 0
block_tested f row at m i lt =
    ap (λ (t : List ℕ). get_or t i 0) (sym (take-map f m (drop at row)))
    ∙ get_or-take m (map f (drop at row)) i 0 lt
    ∙ ap (λ (t : List ℕ). get_or t i 0) (sym (drop-map f at row))
    ∙ get_or-drop at (map f row) i 0

-- the word of the last 64 samples, of which those before a place are shifted out
pub end_tested : {A : Type 0} (f : A → ℕ) (row : List A) (word last m from s : ℕ) → word < 2 ^ 64 → last + 64 ≡ length row → m ≡ 64 → from + 64 ≡ length row + s → ((i : ℕ) → i < 64 → bit_at word i ≡ get_or (map f (take m (drop last row))) i 0)
    → (i : ℕ) → i < 64 → bit_at (word / 2 ^ s) i ≡ get_or (map f row) (from + i) 0
end_tested f row word last m from s small last-is m-is s-is word-is i lt =
    let size = length-map row f in
    ap (λ (t : ℕ). t % 2) (shr-shr word s i)
    ∙ elim (cases_lt (s + i) 64) [
      | inl inside ↦
          let place : last + (s + i) ≡ from + i = omega arith in
          word-is (s + i) inside ∙ block_tested f row last m (s + i) (omega arith) ∙ ap (λ (t : ℕ). get_or (map f row) t 0) place
      | inr past ↦ bit_at_above word 64 (s + i) small past ∙ sym (get_or_past (map f row) (from + i) 0 (omega arith))
    ]
