-- Lists of places that grow by one, or stay.
use Rattle.std.proofs.Common.{◌≡◌, ◌⊎◌, ℕ, ◌+◌, ◌<◌, List, [], ◌∷◌, ◌++◌, length, map, take, get_or, ap, sym, subst, arith, ◌∙◌, inl, inr}
use Rattle.std.specs.List.{Contains}
use Rattle.std.proofs.lemmas.List.{map-append, take_more}
use Rattle.mw_offset_lent.specs.Splits.{IsCover}
use Rattle.std.proofs.lemmas.List.Elements.{Contains-append_left, Contains-push, Contains-push_cases}

pub none_in : {A : Type 0} (x : A) → Contains [] x → ⊥
none_in x has = let lt = has.1 in omega arith

-- what holds of each place of a list, where one was added or none
pub each_more : (Q : ℕ → Type 0) (old new : List ℕ) (x : ℕ) → (new ≡ old) ⊎ (Q x × (new ≡ old ++ x ∷ [])) → ((p : ℕ) → Contains old p → Q p) → (p : ℕ) → Contains new p → Q p
each_more Q old new x (inl same) all p has = all p (subst (λ (t : List ℕ). Contains t p) same has)
each_more Q old new x (inr more) all p has = elim (Contains-push_cases old x p (subst (λ (t : List ℕ). Contains t p) more.1 has)) [
  | inl before ↦ all p before
  | inr here ↦ subst Q here more.0
]

-- one place more of all, which is shared, or was added
pub whole_more : (shared old new all : List ℕ) (ahead j x : ℕ) → j < length all → x ≡ get_or all j 0 → ((Contains shared (x + ahead)) × (new ≡ old)) ⊎ (new ≡ old ++ x ∷ [])
    → ((p : ℕ) → Contains (take j all) p → (Contains shared (p + ahead)) ⊎ (Contains old p)) → (p : ℕ) → Contains (take (j + 1) all) p → (Contains shared (p + ahead)) ⊎ (Contains new p)
whole_more shared old new all ahead j x lt x-is step before p has =
    elim (Contains-push_cases (take j all) (get_or all j 0) p (subst (λ (t : List ℕ). Contains t p) (take_more all j 0 lt) has)) [
      | inl earlier ↦ elim (before p earlier) [
        | inl in_shared ↦ inl in_shared
        | inr in_old ↦ inr (kept step p in_old)
      ]
      | inr here ↦ subst (λ (t : ℕ). (Contains shared (t + ahead)) ⊎ (Contains new t)) here (subst (λ (t : ℕ). (Contains shared (t + ahead)) ⊎ (Contains new t)) x-is (this step))
    ]
  where
    kept : ((Contains shared (x + ahead)) × (new ≡ old)) ⊎ (new ≡ old ++ x ∷ []) → (p : ℕ) → Contains old p → Contains new p
    kept (inl same) p has = subst (λ (t : List ℕ). Contains t p) (sym same.1) has
    kept (inr more) p has = subst (λ (t : List ℕ). Contains t p) (sym more) (Contains-append_left old (x ∷ []) p has)

    this : ((Contains shared (x + ahead)) × (new ≡ old)) ⊎ (new ≡ old ++ x ∷ []) → (Contains shared (x + ahead)) ⊎ (Contains new x)
    this (inl same) = inl same.0
    this (inr more) = inr (subst (λ (t : List ℕ). Contains t x) (sym more) (Contains-push old x))

-- a place that was added is one of all
pub rest_more : (shared old new all : List ℕ) (ahead x : ℕ) → Contains all x → ((Contains shared (x + ahead)) × (new ≡ old)) ⊎ (new ≡ old ++ x ∷ []) → ((p : ℕ) → Contains old p → Contains all p) → (p : ℕ) → Contains new p → Contains all p
rest_more shared old new all ahead x here (inl same) before p has = before p (subst (λ (t : List ℕ). Contains t p) same.1 has)
rest_more shared old new all ahead x here (inr more) before p has = elim (Contains-push_cases old x p (subst (λ (t : List ℕ). Contains t p) more has)) [
  | inl earlier ↦ before p earlier
  | inr this ↦ subst (Contains all) this here
]

-- one element more
pub map_more : {A B : Type 0} (f : A → B) (xs : List A) (i : ℕ) (d : A) (old new : List B) (y : B) → i < length xs → y ≡ f (get_or xs i d) → new ≡ old ++ y ∷ [] → old ≡ map f (take i xs) → new ≡ map f (take (i + 1) xs)
map_more f xs i d old new y lt y-is new-is old-is =
    new-is
    ∙ ap (λ (t : List _). t ++ y ∷ []) old-is
    ∙ ap (λ (t : _). map f (take i xs) ++ t ∷ []) y-is
    ∙ sym (map-append f (take i xs) (get_or xs i d ∷ []))
    ∙ ap (map f) (sym (take_more xs i d lt))

-- a cover by the same lists
pub cover_by : (shared own all s o : List ℕ) (ahead : ℕ) → s ≡ shared → o ≡ own → IsCover shared own all ahead → IsCover s o all ahead
cover_by shared own all s o ahead s-is o-is cover = subst (λ (t : List ℕ). IsCover t o all ahead) (sym s-is) (subst (λ (t : List ℕ). IsCover shared t all ahead) (sym o-is) cover)
