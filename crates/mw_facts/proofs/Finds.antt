-- The first element that passes a test, and its place.
use Rattle.std.proofs.Common.{◌≡◌, ℕ, zero, suc, ◌<◌, ◌≤◌, Bool, true, false, not, ltb, cond, ◌⊎◌, inl, inr, List, [], ◌∷◌, length, get_or, find, Option, Some, None, refl, sym, ap, ◌∙◌, subst, arith}
use Rattle.std.specs.List.{AllByRecursion, Contains, position, position_or_len}
use Rattle.std.proofs.lemmas.Bool.{cases_Bool, ltb-false, lt-ltb, not-true}
use Rattle.std.proofs.lemmas.Option.{same_Some, none-some}
use Rattle.std.proofs.lemmas.List.Elements.{Contains-append_right}
use Rattle.std.proofs.lemmas.List.Sums.{prefix_len_passes, position_or_len_is}

pub option_cases : {A : Type 0} (o : Option A) → (o ≡ None) ⊎ ((x : A) × (o ≡ Some x))
option_cases None = inl refl
option_cases (Some x) = inr (x, refl)

pub cond-none : {A : Type 0} (b : Bool) (x : A) → cond b (Some x) None ≡ None → b ≡ false
cond-none true x e = absurd (none-some x (sym e))
cond-none false x e = refl

pub contains-cons : {A : Type 0} (x y : A) (xs : List A) → Contains xs y → Contains (x ∷ xs) y
contains-cons x y xs has = Contains-append_right (x ∷ []) xs y has

pub find-same : {A : Type 0} (p q : A → Bool) (xs : List A) → AllByRecursion (λ x. p x ≡ q x) xs → find p xs ≡ find q xs
find-same p q [] same = refl
find-same p q (x ∷ xs) same = rw (same.0, find-same p q xs same.1) refl

-- where an element passes, one is found
pub find-contains : {A : Type 0} (p : A → Bool) (xs : List A) (x : A) → Contains xs x → p x ≡ true → (s : A) × (find p xs ≡ Some s)
find-contains {A = A} p xs x has passes = at xs has.0 has.1 (ap p has.2 ∙ passes)
  where
    at : (xs : List A) (k : ℕ) → k < length xs → p (get_or xs k x) ≡ true → (s : A) × (find p xs ≡ Some s)
    at [] k lt e = absurd (omega arith)
    at (y ∷ ys) zero lt e = (y, rw e refl)
    at (y ∷ ys) (suc k) lt e = elim (cases_Bool (p y)) [
      | inl f ↦ (y, rw f refl)
      | inr f ↦ let rest = at ys k (omega arith) e in (rest.0, rw f rest.1)
    ]

-- what is found is an element that passes
pub find-some : {A : Type 0} (p : A → Bool) (xs : List A) (s : A) → find p xs ≡ Some s → Contains xs s × (p s ≡ true)
find-some p [] s found = absurd (none-some s found)
find-some {A = A} p (x ∷ xs) s found = elim (cases_Bool (p x)) [
  | inl f ↦
      let P : A → Type 0 = λ y. Contains (x ∷ xs) y × (p y ≡ true) in
      subst P (same_Some x s (sym (rw f refl) ∙ found)) ((0, omega arith, refl), f)
  | inr f ↦
      let rest = find-some p xs s (sym (rw f refl) ∙ found) in
      (contains-cons x s xs rest.0, rest.1)
]

-- where nothing is found, no element passes
pub find-none : {A : Type 0} (p : A → Bool) (xs : List A) → find p xs ≡ None → AllByRecursion (λ x. p x ≡ false) xs
find-none p [] none = tt
find-none p (x ∷ xs) none = elim (cases_Bool (p x)) [
  | inl f ↦ absurd (none-some x (sym (sym (rw f refl) ∙ none)))
  | inr f ↦ (f, find-none p xs (sym (rw f refl) ∙ none))
]

pub position-none : {A : Type 0} (p : A → Bool) (xs : List A) → position p xs ≡ None → (k : ℕ) (d : A) → k < length xs → p (get_or xs k d) ≡ false
position-none p xs none k d within =
    let past : length xs ≤ position_or_len p xs = ltb-false (position_or_len p xs) (length xs) (cond-none (ltb (position_or_len p xs) (length xs)) (position_or_len p xs) none) in
    not-true (p (get_or xs k d)) (prefix_len_passes (λ x. not (p x)) xs k d (omega arith))

-- the first place that passes
pub position-is : {A : Type 0} (p : A → Bool) (xs : List A) (i : ℕ) (d : A) → i < length xs → ((k : ℕ) → k < i → p (get_or xs k d) ≡ false) → p (get_or xs i d) ≡ true → position p xs ≡ Some i
position-is p xs i d within before here =
    let e : position_or_len p xs ≡ i = position_or_len_is p xs i d (omega arith) before (λ h. here) in
    rw (e, lt-ltb i (length xs) within) refl
