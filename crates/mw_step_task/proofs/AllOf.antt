-- A fact that is tested of each element in turn.
use Rattle.std.proofs.Common.{◌≡◌, ◌↔◌, ℕ, zero, suc, ◌+◌, ◌<◌, ◌≤◌, List, [], ◌∷◌, length, map, drop, get_or, ap, sym, subst, arith, ◌∙◌, add-one, drop-cons}
use Rattle.std.specs.List.{AllByRecursion}

-- all of the list is what is left of it, since each element before is so
abbrev pub AllIsRest : {A : Type 0} → (A → Type 0) → List A → ℕ → Type 0
AllIsRest P xs i = AllByRecursion P xs ↔ AllByRecursion P (drop i xs)

drop-split : {A : Type 0} (P : A → Type 0) (xs : List A) (i : ℕ) (x : A) → i < length xs → x ≡ get_or xs i x → drop i xs ≡ x ∷ drop (i + 1) xs
drop-split P xs i x lt is = drop-cons xs i x lt ∙ ap (λ (t : _). t ∷ drop (suc i) xs) (sym is) ∙ ap (λ (n : ℕ). x ∷ drop n xs) (sym (add-one i))

pub all_fails : {A : Type 0} (P : A → Type 0) (xs : List A) (i : ℕ) (x : A) → i < length xs → x ≡ get_or xs i x → ¬ P x → AllIsRest P xs i → AllByRecursion P xs → ⊥
all_fails P xs i x lt is not before all = not (subst (AllByRecursion P) (drop-split P xs i x lt is) (before.0 all)).0

pub all_end : {A : Type 0} (P : A → Type 0) (xs : List A) (i : ℕ) → length xs ≤ i → AllIsRest P xs i → AllByRecursion P xs
all_end P xs i past before = before.1 (empty P xs i past)
  where
    empty : {A : Type 0} (P : A → Type 0) (xs : List A) (i : ℕ) → length xs ≤ i → AllByRecursion P (drop i xs)
    empty P [] zero past = tt
    empty P [] (suc i) past = tt
    empty P (x ∷ xs) zero past = absurd (omega arith)
    empty P (x ∷ xs) (suc i) past = empty P xs i (omega arith)

-- of what is made of each element
pub all_map : {A B : Type 0} (P : B → Type 0) (f : A → B) (xs : List A) → AllByRecursion P (map f xs) ↔ AllByRecursion (λ x. P (f x)) xs
all_map P f [] = ((λ h. h), (λ h. h))
all_map P f (x ∷ xs) = ((λ h. (h.0, (all_map P f xs).0 h.1)), (λ h. (h.0, (all_map P f xs).1 h.1)))
