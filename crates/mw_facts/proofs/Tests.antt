-- Tests of each element, and of options and answers.
use Rattle.std.proofs.Common.{◌≡◌, ℕ, zero, suc, ◌+◌, ◌<◌, ◌≤◌, Bool, true, false, cond, List, [], ◌∷◌, Option, None, refl, subst, arith, inl, inr, sym, ◌||◌, Some}
use Rattle.std.specs.Prelude.{IsSome}
use Rattle.std.specs.List.{range_with_len, list_all, list_any}
use Rattle.std.proofs.lemmas.Bool.{cases_lt, and_parts, and_from, or_left, or_right}

pub list_all-weaker : {A : Type 0} (p q : A → Bool) (xs : List A) → ((x : A) → p x ≡ true → q x ≡ true) → list_all p xs ≡ true → list_all q xs ≡ true
list_all-weaker p q [] more all = refl
list_all-weaker p q (x ∷ xs) more all =
    let parts = and_parts (p x) (list_all p xs) all in
    and_from (q x) (list_all q xs) (more x parts.0) (list_all-weaker p q xs more parts.1)

pub list_any-range : (p : ℕ → Bool) (a n k : ℕ) → a ≤ k → k < a + n → p k ≡ true → list_any p (range_with_len a n) ≡ true
list_any-range p a zero k from to so = absurd (omega arith)
list_any-range p a (suc n) k from to so =
    elim (cases_lt a k) [
      | inl less ↦ or_right (p a) (list_any p (range_with_len (a + 1) n)) (list_any-range p (a + 1) n k (omega arith) (omega arith) so)
      | inr there ↦ let e : k ≡ a = omega arith in or_left (p a) (list_any p (range_with_len (a + 1) n)) (subst (λ (x : ℕ). p x ≡ true) e so)
    ]

pub none-not_some : {A : Type 0} (o : Option A) → o ≡ None → IsSome o → ⊥
none-not_some {A} o e some = let clash : false ≡ true = subst (λ (p : Option A). IsSome p) e some in cc

pub or-false_right : (b c : Bool) → c ≡ false → b ≡ b || c
or-false_right true c e = refl
or-false_right false c e = sym e

pub cond_none-some : {A : Type 0} (b : Bool) (o : Option A) (x : A) → cond b None o ≡ Some x → o ≡ Some x
cond_none-some true o x e = absurd cc
cond_none-some false o x e = e
