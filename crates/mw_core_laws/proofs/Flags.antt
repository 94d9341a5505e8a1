-- Tests over the numbers of a range.
use Rattle.std.proofs.Common.{◌≡◌, ℕ, zero, suc, ◌+◌, ◌<◌, ◌≤◌, Bool, true, not, inl, inr, List, refl, ap, ◌∙◌, subst, arith}
use Rattle.std.specs.Prelude.{count_by, Contains}
use Rattle.std.specs.List.{range_with_len, list_all, list_any}
use Rattle.std.proofs.lemmas.Bool.{cases_lt, cases_Bool, and_parts, eq-eqb}
use Rattle.std.proofs.lemmas.List.Folds.{list_any_at}
use Rattle.mw_model.proofs.mw_facts.Counts.{count_by-some}
use Rattle.mw_model.specs.Plans.{Source, FromStep}
use Rattle.mw_model.specs.Tasks.{is_step}

pub list_all-range : (p : ℕ → Bool) (a n k : ℕ) → list_all p (range_with_len a n) ≡ true → a ≤ k → k < a + n → p k ≡ true
list_all-range p a zero k h from to = absurd (omega arith)
list_all-range p a (suc n) k h from to =
    let parts = and_parts (p a) (list_all p (range_with_len (a + 1) n)) h in
    elim (cases_lt a k) [
      | inl less ↦ list_all-range p (a + 1) n k parts.1 (omega arith) (omega arith)
      | inr there ↦ let e : a ≡ k = omega arith in subst (λ (x : ℕ). p x ≡ true) e parts.0
    ]

-- where no number passes the negated test, each passes the test
pub count_by-not_none : (p : ℕ → Bool) (n k : ℕ) → count_by (λ i. not (p i)) (range_with_len 0 n) ≡ 0 → k < n → p k ≡ true
count_by-not_none p n k none within =
    elim (cases_Bool (p k)) [
      | inl h ↦ h
      | inr h ↦ absurd (omega (arith, none, count_by-some (λ i. not (p i)) n k within (ap not h)))
    ]

-- a step among the sources is found there
pub list_any-is_step : (k : ℕ) (sources : List Source) → Contains sources (FromStep k) → list_any (is_step k) sources ≡ true
list_any-is_step k sources has = list_any_at (is_step k) sources has.0 (FromStep k) has.1 (ap (is_step k) has.2 ∙ eq-eqb k k refl)
