-- Places that are written one after another.
use Rattle.std.proofs.Common.{◌≡◌, ℕ, ◌+◌, ◌<◌, ◌≤◌, List, length, get_or, set, refl, ap, arith, ◌∙◌, inl, inr}
use Rattle.std.proofs.lemmas.Bool.{cases_lt, cases_eq}
use Rattle.std.proofs.lemmas.List.{get_or-set_same, get_or-set_other, length-set}
use Rattle.mw_geodesic_labels.specs.Overwriting.{IsOverwritten}

pub written_none : {A : Type 0} (start end : ℕ) (v : A) (xs : List A) → end ≤ start → IsOverwritten start end v xs xs
written_none start end v xs none = record { size = refl; here = λ k d from to. absurd (omega arith); before = λ k d lt. refl }

pub written_more : {A : Type 0} (start n m : ℕ) (v : A) (old xs : List A) → start ≤ n → n < length xs → m ≡ n + 1 → IsOverwritten start n v old xs → IsOverwritten start m v old (set xs n v)
written_more start n m v old xs low lt next was = record {
  size = length-set xs n v ∙ was.size;
  here = λ k d from to. elim (cases_eq k n) [
    | inl same ↦ ap (λ (t : ℕ). get_or (set xs n v) t d) same ∙ get_or-set_same xs n v d lt
    | inr other ↦ get_or-set_other xs n k v d other ∙ was.here k d from (omega arith)
  ];
  before = λ k d less. get_or-set_other xs n k v d (λ e. absurd (omega arith)) ∙ was.before k d less;
}

pub written_on : {A : Type 0} (start mid end : ℕ) (v : A) (old xs new : List A) → start ≤ mid → IsOverwritten start mid v old xs → IsOverwritten mid end v xs new → IsOverwritten start end v old new
written_on start mid end v old xs new low first second = record {
  size = second.size ∙ first.size;
  here = λ k d from to. elim (cases_lt k mid) [
    | inl less ↦ second.before k d less ∙ first.here k d from less
    | inr past ↦ second.here k d past to
  ];
  before = λ k d less. second.before k d (omega arith) ∙ first.before k d less;
}

pub written_less : {A : Type 0} (start mid end : ℕ) (v : A) (old xs : List A) → end ≤ mid → IsOverwritten start mid v old xs → IsOverwritten start end v old xs
written_less start mid end v old xs low was = record { size = was.size; here = λ k d from to. was.here k d from (omega arith); before = was.before }
