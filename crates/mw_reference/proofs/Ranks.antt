-- A rank filter that reads its samples one by one.
use Rattle.std.proofs.Common.{◌≡◌, ℕ, zero, suc, ◌+◌, ◌-◌, ◌<◌, ◌≤◌, List, [], ◌∷◌, length, get_or, min, max, pos, ◌+ℤ◌, Some, None, refl, ap, sym, subst, arith, inl, inr, length-append}
use Rattle.std.specs.List.{Contains}
use Rattle.std.proofs.lemmas.List.Elements.{Contains-append_cases}
use Rattle.mw_model.specs.declared.offsets.Offset.{Offset}
use Rattle.mw_model.specs.Pictures.{Picture, sample_at, IsPicture}
use Rattle.mw_model.specs.Flat.{under, rank}
use Rattle.mw_model.proofs.ImagePlaces.{sample-redrawn, sample_bounded}
use Rattle.mw_model.proofs.ImageLaws.{rank_picture}
use Rattle.mw_model.proofs.RisingOrder.{chosen_among}
use Rattle.mw_model.proofs.Ranks.{IsNth, nth_of, nth_is}
use Rattle.mw_reference.proofs.Loops.{under_first, one_offset_more, all_samples, first_within}

-- number k has not been met under the first offsets
abbrev pub NotYet : Picture → List Offset → ℕ → ℕ → ℕ → ℕ → Type 0
NotYet f bs k i x y = Contains (under_first f bs i x y) (nth_of (under f bs x y) k) → ⊥

pub not_by_none : (f : Picture) (bs : List Offset) (k i x y : ℕ) (d : Offset) → i < length bs → None ≡ sample_at f (pos x +ℤ (get_or bs i d).dx) (pos y +ℤ (get_or bs i d).dy)
    → NotYet f bs k i x y → NotYet f bs k (i + 1) x y
not_by_none f bs k i x y d lt is before found =
    let now = subst (λ (t : List ℕ). Contains t (nth_of (under f bs x y) k)) (one_offset_more f bs i x y d None lt is) found in
    elim (Contains-append_cases (under_first f bs i x y) [] (nth_of (under f bs x y) k) now) [
      | inl old ↦ before old
      | inr (j, less, e) ↦ omega arith
    ]

pub not_by_other : (f : Picture) (bs : List Offset) (k n i x y s : ℕ) (d : Offset) → i < length bs → Some s ≡ sample_at f (pos x +ℤ (get_or bs i d).dx) (pos y +ℤ (get_or bs i d).dy)
    → n ≡ max 1 (min k (length (under f bs x y))) → (IsNth (under f bs x y) n s → ⊥) → NotYet f bs k i x y → NotYet f bs k (i + 1) x y
not_by_other f bs k n i x y s d lt is n-is other before found =
    let r = nth_of (under f bs x y) k in
    let whole = one_offset_more f bs i x y d (Some s) lt is in
    let now = subst (λ (t : List ℕ). Contains t r) whole found in
    elim (Contains-append_cases (under_first f bs i x y) (s ∷ []) r now) [
      | inl old ↦ before old
      | inr here ↦
          let some : 0 < length (under f bs x y) =
          omega (arith, ap (λ (t : List ℕ). length t) whole, length-append (under_first f bs i x y) (s ∷ []), first_within f bs (i + 1) x y) in
          other (subst (IsNth (under f bs x y) n) (sym (only s r here)) (nth_is (under f bs x y) k n n-is some))
    ]
  where
    only : (s r : ℕ) → Contains (s ∷ []) r → s ≡ r
    only s r (zero, less, e) = e
    only s r (suc j, less, e) = absurd (omega arith)

-- where number k has not been met under any offset, there is no sample
pub nth_of-never : (f : Picture) (bs : List Offset) (k i x y : ℕ) → length bs ≤ i → NotYet f bs k i x y → 0 ≡ nth_of (under f bs x y) k
nth_of-never f bs k i x y le not_yet = none (under f bs x y) (λ c. not_yet (subst (λ (t : List ℕ). Contains t (nth_of (under f bs x y) k)) (sym (all_samples f bs i x y le)) c))
  where
    none : (found : List ℕ) → (Contains found (nth_of found k) → ⊥) → 0 ≡ nth_of found k
    none [] not = refl
    none (n ∷ ns) not = absurd (not (chosen_among (n ∷ ns) (min k (length (n ∷ ns)) - 1) (omega arith)))

-- no sample of a rank filter is above the maxval
pub nth_bounded : (f : Picture) (bs : List Offset) (k : ℕ) → IsPicture f → (x y : ℕ) → x < f.width → y < f.height → nth_of (under f bs x y) k ≤ f.maxval
nth_bounded f bs k picture x y p q =
    omega (arith, sample_bounded (rank bs k f) (rank_picture bs k f picture) x y p q, sample-redrawn f (λ x y. nth_of (under f bs x y) k) x y p q)
