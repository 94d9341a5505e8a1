-- Numbers that are marked one after another.
use Rattle.std.proofs.Common.{◌≡◌, ◌≢◌, ℕ, ◌+◌, ◌<◌, Bool, true, false, List, length, replicate, get_or, set, refl, ap, sym, subst, arith, ◌∙◌, inl, inr}
use Rattle.std.specs.Prelude.{if◌then◌else◌}
use Rattle.std.proofs.lemmas.Bool.{cases_lt, cases_eq, false≢true}
use Rattle.std.proofs.lemmas.List.{get_or-set_same, get_or-set_other, length-set}
use Rattle.mw_model.proofs.mw_facts.Elements.{get_or-replicate_same}
use Rattle.mw_geodesic_runs.specs.declared.runs.Run.{Run}
use Rattle.mw_geodesic_runs.specs.Runs.{run_numbered}
use Rattle.mw_geodesic_kept.specs.Keeping.{mark_of, HasAsked, AreMarked}

pub none_marked : (count : ℕ) (marks : List Bool) → marks ≡ replicate count false → (k : ℕ) → mark_of marks k ≡ false
none_marked count marks is k = ap (λ (t : List Bool). mark_of t k) is ∙ get_or-replicate_same count k false

pub marked_none : (Asked : Run → Type 0) (runs : List Run) (numbers : List ℕ) (marks : List Bool) → ((k : ℕ) → mark_of marks k ≡ false) → AreMarked Asked runs numbers 0 marks
marked_none Asked runs numbers marks none = record {
  back = λ k is. absurd (false≢true (sym (none k) ∙ is));
  on = λ i lt asked. absurd (omega arith);
}

more : (Asked : Run → Type 0) (runs : List Run) (numbers : List ℕ) (n k : ℕ) → HasAsked Asked runs numbers n k → HasAsked Asked runs numbers (n + 1) k
more Asked runs numbers n k was = let before = was.before in record { at = was.at; before = omega arith; number = was.number; asked = was.asked }

pub marked_on : (Asked : Run → Type 0) (runs : List Run) (numbers : List ℕ) (marks marks' : List Bool) (n k : ℕ) → k ≡ get_or numbers n 0 → k < length marks → marks' ≡ set marks k true → Asked (run_numbered runs n)
    → AreMarked Asked runs numbers n marks → AreMarked Asked runs numbers (n + 1) marks'
marked_on Asked runs numbers marks marks' n k number within is asked was =
    let here : mark_of marks' k ≡ true = ap (λ (t : List Bool). mark_of t k) is ∙ get_or-set_same marks k true false within in
    let there : (j : ℕ) → j ≢ k → mark_of marks' j ≡ mark_of marks j = λ j ne. ap (λ (t : List Bool). mark_of t j) is ∙ get_or-set_other marks k j true false ne in
    record {
      back = λ j mark. elim (cases_eq j k) [
        | inl same ↦ record { at = n; before = omega arith; number = sym number ∙ sym same; asked = asked }
        | inr ne ↦ more Asked runs numbers n j (was.back j (sym (there j ne) ∙ mark))
      ];
      on = λ i lt asked'. elim (cases_eq (get_or numbers i 0) k) [
        | inl same ↦ ap (mark_of marks') same ∙ here
        | inr ne ↦ elim (cases_lt i n) [
          | inl before ↦ there (get_or numbers i 0) ne ∙ was.on i before asked'
          | inr from ↦
              let last : i ≡ n = omega arith in
              absurd (ne (ap (λ (t : ℕ). get_or numbers t 0) last ∙ sym number))
        ]
      ];
    }

pub marked_past : (Asked : Run → Type 0) (runs : List Run) (numbers : List ℕ) (marks : List Bool) (n : ℕ) → (Asked (run_numbered runs n) → ⊥) → AreMarked Asked runs numbers n marks → AreMarked Asked runs numbers (n + 1) marks
marked_past Asked runs numbers marks n not was = record {
  back = λ k mark. more Asked runs numbers n k (was.back k mark);
  on = λ i lt asked. elim (cases_lt i n) [
    | inl before ↦ was.on i before asked
    | inr from ↦
        let last : i ≡ n = omega arith in
        absurd (not (subst (λ (t : ℕ). Asked (run_numbered runs t)) last asked))
  ];
}

-- the number of the next run is marked where that is asked for
pub marked_next : (Asked : Run → Type 0) (runs : List Run) (numbers : List ℕ) (marks marks' : List Bool) (n m k : ℕ) (r : Run) (is_asked : Bool) → run_numbered runs n ≡ r → m ≡ n + 1 → k ≡ get_or numbers n 0 → k < length marks
    → (is_asked ≡ true → Asked r) → (is_asked ≡ false → Asked r → ⊥) → marks' ≡ (if is_asked then set marks k true else marks) → AreMarked Asked runs numbers n marks → AreMarked Asked runs numbers m marks'
marked_next Asked runs numbers marks marks' n m k r true read next number within asks spares is was =
    subst (λ (t : ℕ). AreMarked Asked runs numbers t marks') (sym next) (marked_on Asked runs numbers marks marks' n k number within is (subst Asked (sym read) (asks refl)) was)
marked_next Asked runs numbers marks marks' n m k r false read next number within asks spares is was =
    subst (λ (t : ℕ). AreMarked Asked runs numbers t marks') (sym next)
    (subst (λ (t : List Bool). AreMarked Asked runs numbers (n + 1) t) (sym is) (marked_past Asked runs numbers marks n (λ asked. spares refl (subst Asked read asked)) was))

-- as many marks are left
pub as_many_marks : (marks marks' : List Bool) (k : ℕ) (is_asked : Bool) → marks' ≡ (if is_asked then set marks k true else marks) → length marks' ≡ length marks
as_many_marks marks marks' k true is = ap (λ (t : List Bool). length t) is ∙ length-set marks k true
as_many_marks marks marks' k false is = ap (λ (t : List Bool). length t) is

-- the same marks, where what is asked for is the same of each run
pub marked_as : (Asked Asked' : Run → Type 0) (runs : List Run) (numbers : List ℕ) (n : ℕ) (marks : List Bool) → ((i : ℕ) → i < n → Asked (run_numbered runs i) → Asked' (run_numbered runs i))
    → ((i : ℕ) → i < n → Asked' (run_numbered runs i) → Asked (run_numbered runs i)) → AreMarked Asked runs numbers n marks → AreMarked Asked' runs numbers n marks
marked_as Asked Asked' runs numbers n marks to from was = record {
  back = λ k mark. let asked = was.back k mark in record { at = asked.at; before = asked.before; number = asked.number; asked = to asked.at asked.before asked.asked };
  on = λ i lt asked. was.on i lt (from i lt asked);
}
