-- The sources of a need, one after another.
use Rattle.std.proofs.Common.{◌≡◌, ℕ, ◌+◌, Bool, true, false, ◌&&◌, ◌||◌, List, length, take, get_or, Option, None, refl, sym, ap, ◌∙◌, arith, inl, inr}
use Rattle.std.specs.List.{list_any}
use Rattle.std.proofs.lemmas.Bool.{cases_lt}
use Rattle.std.proofs.lemmas.List.{get_or_past, take_all}
use Rattle.std.proofs.lemmas.List.Folds.{list_any_more, list_any_at}
use Rattle.mw_model.proofs.mw_facts.Tests.{or-false_right}
use Rattle.mw_ready.specs.Boards.{is_source}

no_source : (k : ℕ) (o : Option ℕ) → o ≡ None → is_source k o ≡ true → ⊥
no_source k o e t = let f : false ≡ true = ap (is_source k) (sym e) ∙ t in cc

pub source_at : (steps : List (Option ℕ)) (i k : ℕ) → is_source k (get_or steps i None) ≡ true → list_any (is_source k) steps ≡ true
source_at steps i k e = elim (cases_lt i (length steps)) [
  | inl lt ↦ list_any_at (is_source k) steps i None lt e
  | inr past ↦ absurd (no_source k (get_or steps i None) (get_or_past steps i None past) e)
]

pub any_more : (steps : List (Option ℕ)) (i k : ℕ) → list_any (is_source k) (take (i + 1) steps) ≡ list_any (is_source k) (take i steps) || is_source k (get_or steps i None)
any_more steps i k = elim (cases_lt i (length steps)) [
  | inl lt ↦ list_any_more (is_source k) steps i None lt
  | inr past ↦
      ap (list_any (is_source k)) (take_all (i + 1) steps (omega arith) ∙ sym (take_all i steps past))
      ∙ or-false_right (list_any (is_source k) (take i steps)) (is_source k (get_or steps i None)) (ap (is_source k) (get_or_past steps i None past))
]

pub or_and_one : (a b c : Bool) → (a || b) && c ≡ (a && c) || (b && c)
or_and_one true true true = refl
or_and_one true true false = refl
or_and_one true false true = refl
or_and_one true false false = refl
or_and_one false b c = refl

pub and_three : (a b c : Bool) → a && (b && c) ≡ a && b && c
and_three true b c = refl
and_three false b c = refl
