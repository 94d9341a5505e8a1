-- Classes that are numbered by their roots.
use Rattle.std.proofs.Common.{◌≡◌, ◌≢◌, ℕ, zero, suc, ◌+◌, ◌<◌, ◌≤◌, List, length, get_or, set, refl, ap, sym, arith, ◌∙◌, inl, inr}
use Rattle.std.proofs.lemmas.Bool.{cases_lt, cases_eq, cases_order}
use Rattle.std.proofs.lemmas.List.{get_or-set_same, get_or-set_other, length-set}
use Rattle.mw_geodesic_runs.specs.Forests.{IsForest, Respects, StandsBefore, NumbersClasses}

pub numbering_begins : (p : List ℕ) → NumbersClasses p 0 p 0
numbering_begins p = record {
  size = refl;
  rest = λ i le. refl;
  same = λ i lt. absurd (omega arith);
  some = λ i lt. absurd (omega arith);
  most = λ i lt. absurd (omega arith);
  fresh = λ i j lt root less. absurd (omega arith);
  steps = λ i lt two k is. absurd (omega arith);
  top = λ one. absurd (omega arith);
  few = omega arith;
}

-- the numbers before number n stay where that is set
stays : (numbers : List ℕ) (n v i : ℕ) → i < n → get_or (set numbers n v) i 0 ≡ get_or numbers i 0
stays numbers n v i lt = get_or-set_other numbers n i v 0 (λ e. absurd (omega arith))

stands : (numbers : List ℕ) (n v k m i : ℕ) → m ≤ n → m ≤ i → StandsBefore numbers m k → StandsBefore (set numbers n v) i k
stands numbers n v k m i le le' was =
    let before = was.before in
    record { at = was.at; before = omega arith; is = stays numbers n v was.at (omega arith) ∙ was.is }

-- what is at the place that is set now: a number above 0, no greater than the count, and the one less stands before it
record IsNext (p : List ℕ) (n : ℕ) (numbers : List ℕ) (count v count' : ℕ) : Type 0 where
  some : 1 ≤ v
  most : v ≤ count'
  grows : count ≤ count'
  few : count' ≤ n + 1
  same : get_or (set numbers n v) (get_or p n 0) 0 ≡ v
  fresh : get_or p n 0 ≡ n → v ≡ count + 1
  steps : 2 ≤ v → (k : ℕ) → k + 1 ≡ v → StandsBefore numbers n k
  top : 1 ≤ count' → StandsBefore (set numbers n v) (n + 1) count'

numbering_on : (p : List ℕ) (n : ℕ) (numbers : List ℕ) (count v count' : ℕ) → n < length p → IsForest p → IsNext p n numbers count v count' → NumbersClasses p n numbers count → NumbersClasses p (n + 1) (set numbers n v) count'
numbering_on p n numbers count v count' lt forest next was =
    let size = was.size in
    let here : get_or (set numbers n v) n 0 ≡ v = get_or-set_same numbers n v 0 (omega arith) in
    let next_some = next.some in
    let next_most = next.most in
    let next_grows = next.grows in
    record {
      size = length-set numbers n v ∙ size;
      rest = λ i le. get_or-set_other numbers n i v 0 (λ e. absurd (omega arith)) ∙ was.rest i (omega arith);
      same = λ i less. elim (cases_lt i n) [
        | inl old ↦
            let low = forest.lower i (omega arith) in
            stays numbers n v (get_or p i 0) (omega arith) ∙ was.same i old ∙ sym (stays numbers n v i old)
        | inr from ↦
            let is : i ≡ n = omega arith in
            rw is (next.same ∙ sym here)
      ];
      some = λ i less. elim (cases_lt i n) [
        | inl old ↦ let is = stays numbers n v i old in let low = was.some i old in omega arith
        | inr from ↦ let is : i ≡ n = omega arith in rw is (omega arith)
      ];
      most = λ i less. elim (cases_lt i n) [
        | inl old ↦ let is = stays numbers n v i old in let low = was.most i old in omega arith
        | inr from ↦ let is : i ≡ n = omega arith in rw is (omega arith)
      ];
      fresh = λ i j less root before. elim (cases_lt i n) [
        | inl old ↦ let is = stays numbers n v i old in let is' = stays numbers n v j (omega arith) in let low = was.fresh i j old root before in omega arith
        | inr from ↦
            let is : i ≡ n = omega arith in
            let now : get_or (set numbers n v) i 0 ≡ v = ap (λ (t : ℕ). get_or (set numbers n v) t 0) is ∙ here in
            let own : get_or p n 0 ≡ n = ap (λ (t : ℕ). get_or p t 0) (sym is) ∙ root ∙ is in
            let new = next.fresh own in
            let is' = stays numbers n v j (omega arith) in
            let low = was.most j (omega arith) in
            omega arith
      ];
      steps = λ i less two k one. elim (cases_lt i n) [
        | inl old ↦
            let is = stays numbers n v i old in
            stands numbers n v k i i (omega arith) (omega arith) (was.steps i old (omega arith) k (one ∙ is))
        | inr from ↦
            let is : i ≡ n = omega arith in
            let now : get_or (set numbers n v) i 0 ≡ v = ap (λ (t : ℕ). get_or (set numbers n v) t 0) is ∙ here in
            stands numbers n v k n i (omega arith) (omega arith) (next.steps (omega arith) k (one ∙ now))
      ];
      top = next.top;
      few = next.few;
    }

pub numbering_root : (p : List ℕ) (n : ℕ) (numbers : List ℕ) (count : ℕ) → n < length p → IsForest p → get_or numbers n 0 ≡ n → NumbersClasses p n numbers count → NumbersClasses p (n + 1) (set numbers n (count + 1)) (count + 1)
numbering_root p n numbers count lt forest root was =
    let size = was.size in
    let few = was.few in
    let own : get_or p n 0 ≡ n = sym (was.rest n (omega arith)) ∙ root in
    let here : get_or (set numbers n (count + 1)) n 0 ≡ count + 1 = get_or-set_same numbers n (count + 1) 0 (omega arith) in
    numbering_on p n numbers count (count + 1) (count + 1) lt forest
    (record {
      some = omega arith;
      most = omega arith;
      grows = omega arith;
      few = omega arith;
      same = ap (λ (t : ℕ). get_or (set numbers n (count + 1)) t 0) own ∙ here;
      fresh = λ e. refl;
      steps = λ two k one.
          let is : k ≡ count = omega arith in
          rw is (was.top (omega arith));
      top = λ one. record { at = n; before = omega arith; is = here };
    }) was

pub numbering_child : (p : List ℕ) (n above : ℕ) (numbers : List ℕ) (count : ℕ) → n < length p → IsForest p → get_or numbers n 0 ≡ above → above ≢ n → NumbersClasses p n numbers count
    → NumbersClasses p (n + 1) (set numbers n (get_or numbers above 0)) count
numbering_child p n above numbers count lt forest is ne was =
    let size = was.size in
    let few = was.few in
    let parent : get_or p n 0 ≡ above = sym (was.rest n (omega arith)) ∙ is in
    let low = forest.lower n lt in
    let less : above < n = omega arith in
    let v = get_or numbers above 0 in
    let v_some : 1 ≤ get_or numbers above 0 = was.some above less in
    let v_most : get_or numbers above 0 ≤ count = was.most above less in
    numbering_on p n numbers count v count lt forest
    (record {
      some = v_some;
      most = v_most;
      grows = omega arith;
      few = omega arith;
      same = ap (λ (t : ℕ). get_or (set numbers n v) t 0) parent ∙ stays numbers n v above less;
      fresh = λ own. absurd (ne (sym parent ∙ own));
      steps = λ two k one.
          let old = was.steps above less two k one in
          let before = old.before in
          record { at = old.at; before = omega arith; is = old.is };
      top = λ one. stands numbers n v count n (n + 1) (omega arith) (omega arith) (was.top one);
    }) was

-- ---- numbers as a colouring

pub numbers_respect : (p numbers : List ℕ) (n count : ℕ) → length p ≤ n → NumbersClasses p n numbers count → Respects p (λ i. get_or numbers i 0)
numbers_respect p numbers n count all is = record { same = λ i lt. is.same i (omega arith) }

-- the root of a number
record Root (p numbers : List ℕ) (f : ℕ → ℕ) (i : ℕ) : Type 0 where
  at : ℕ
  low : at ≤ i
  own : get_or p at 0 ≡ at
  number : get_or numbers at 0 ≡ get_or numbers i 0
  colour : f at ≡ f i

root_within : (p numbers : List ℕ) (f : ℕ → ℕ) (count m i : ℕ) → IsForest p → NumbersClasses p (length p) numbers count → Respects p f → i ≤ m → i < length p → Root p numbers f i
root_within p numbers f count zero i forest is respects le lt =
    let low = forest.lower i lt in
    record { at = i; low = omega arith; own = omega arith; number = refl; colour = refl }
root_within p numbers f count (suc m) i forest is respects le lt =
    let low = forest.lower i lt in
    elim (cases_eq (get_or p i 0) i) [
      | inl own ↦ record { at = i; low = omega arith; own = own; number = refl; colour = refl }
      | inr other ↦
          let up = root_within p numbers f count m (get_or p i 0) forest is respects (omega arith) (omega arith) in
          let below = up.low in
          record { at = up.at; low = omega arith; own = up.own; number = up.number ∙ is.same i lt; colour = up.colour ∙ respects.same i lt }
    ]

-- one number, one colour
pub one_colour : (p numbers : List ℕ) (f : ℕ → ℕ) (count i j : ℕ) → IsForest p → NumbersClasses p (length p) numbers count → Respects p f → i < length p → j < length p → get_or numbers i 0 ≡ get_or numbers j 0 → f i ≡ f j
one_colour p numbers f count i j forest is respects lt lt' same =
    let r = root_within p numbers f count i i forest is respects (omega arith) lt in
    let s = root_within p numbers f count j j forest is respects (omega arith) lt' in
    let low = r.low in
    let low' = s.low in
    let number = r.number in
    let number' = s.number in
    elim (cases_order r.at s.at) [
      | inl one ↦ sym r.colour ∙ ap f one ∙ s.colour
      | inr apart ↦ elim apart [
        | inl less ↦ let rising = is.fresh s.at r.at (omega arith) s.own less in absurd (omega arith)
        | inr more ↦ let rising = is.fresh r.at s.at (omega arith) r.own more in absurd (omega arith)
      ]
    ]
