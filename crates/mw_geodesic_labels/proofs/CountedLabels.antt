-- Labels that count up to a first number.
use Rattle.std.proofs.Common.{◌≡◌, ℕ, zero, suc, ◌+◌, ◌<◌, ◌≤◌, Bool, true, false, List, length, get_or, map, take, cond, max, refl, ap, sym, arith, ◌∙◌, inl, inr}
use Rattle.std.specs.Prelude.{◌==◌, ◌&&◌, count_by}
use Rattle.std.specs.List.{range_with_len}
use Rattle.std.proofs.lemmas.Bool.{cases_eq, cases_order, and_from, and_left, and_right, eq-eqb, ne_eqb}
use Rattle.std.proofs.lemmas.List.{take_all}
use Rattle.std.proofs.lemmas.List.FromFn.{length-map-range_with_len, get_or-map-range_with_len}
use Rattle.std.proofs.lemmas.List.Sums.{sum_by_push}
use Rattle.mw_model.specs.Flat.{greatest}
use Rattle.mw_model.proofs.mw_facts.Ranges.{range_with_len-more}
use Rattle.mw_geodesic.proofs.Markings.{greatest_more}

-- ---- how many numbers before n pass a test

abbrev pub passed : (ℕ → Bool) → ℕ → ℕ
passed T n = count_by T (range_with_len 0 n)

passed_more : (T : ℕ → Bool) (n : ℕ) → passed T (n + 1) ≡ passed T n + cond (T n) 1 0
passed_more T n = ap (count_by T) (range_with_len-more 0 n n (omega arith)) ∙ sum_by_push (λ i. cond (T i) 1 0) (range_with_len 0 n) n

passed_yes : (T : ℕ → Bool) (n : ℕ) → T n ≡ true → passed T (n + 1) ≡ passed T n + 1
passed_yes T n passes = passed_more T n ∙ ap (λ b. passed T n + cond b 1 0) passes

passed_no : (T : ℕ → Bool) (n : ℕ) → T n ≡ false → passed T (n + 1) ≡ passed T n
passed_no T n fails = passed_more T n ∙ ap (λ b. passed T n + cond b 1 0) fails ∙ nothing (passed T n)
  where
    nothing : (a : ℕ) → a + 0 ≡ a
    nothing a = omega arith

passed_rise : (T : ℕ → Bool) (m n : ℕ) → m ≤ n → passed T m ≤ passed T n
passed_rise T m zero le =
    let is : m ≡ zero = omega arith in
    let same = ap (passed T) is in
    omega arith
passed_rise T m (suc n) le = elim (cases_eq m (suc n)) [
  | inl is ↦ let same = ap (passed T) is in omega arith
  | inr ne ↦
      let rest = passed_rise T m n (omega arith) in
      let one : suc n ≡ n + 1 = omega arith in
      let same = ap (passed T) one in
      let more = passed_more T n in
      omega arith
]

-- ---- labels

-- of a number with a mark how many pass up to where it leads, and of another one 0
abbrev label_by : (ℕ → Bool) → (ℕ → ℕ) → List ℕ → ℕ → ℕ
label_by T lead marks i = cond (get_or marks i 0 == 1) (passed T (lead i + 1)) 0

abbrev pub labels_by : (ℕ → Bool) → (ℕ → ℕ) → List ℕ → ℕ → List ℕ
labels_by T lead marks n = map (label_by T lead marks) (range_with_len 0 n)

-- a number with a mark leads back to one that passes, and passes where it leads to itself
pub record LeadsBack (T : ℕ → Bool) (lead : ℕ → ℕ) (marks : List ℕ) (n : ℕ) : Type 0 where
  pub back : (i : ℕ) → i < n → get_or marks i 0 ≡ 1 → lead i ≤ i
  pub passes : (i : ℕ) → i < n → get_or marks i 0 ≡ 1 → T (lead i) ≡ true
  pub test : (i : ℕ) → T i ≡ (get_or marks i 0 == 1 && lead i == i)

label_in : (T : ℕ → Bool) (lead : ℕ → ℕ) (marks : List ℕ) (i : ℕ) → get_or marks i 0 ≡ 1 → label_by T lead marks i ≡ passed T (lead i + 1)
label_in T lead marks i one = ap (λ b. cond b (passed T (lead i + 1)) 0) (eq-eqb (get_or marks i 0) 1 one)

label_out : (T : ℕ → Bool) (lead : ℕ → ℕ) (marks : List ℕ) (i : ℕ) → (get_or marks i 0 ≡ 1 → ⊥) → label_by T lead marks i ≡ 0
label_out T lead marks i ne = ap (λ b. cond b (passed T (lead i + 1)) 0) (ne_eqb (get_or marks i 0) 1 ne)

label_is : (T : ℕ → Bool) (lead : ℕ → ℕ) (marks : List ℕ) (n i : ℕ) → i < n → get_or (labels_by T lead marks n) i 0 ≡ label_by T lead marks i
label_is T lead marks n i lt = get_or-map-range_with_len (label_by T lead marks) 0 n i i 0 lt (omega arith)

pub no_label : (T : ℕ → Bool) (lead : ℕ → ℕ) (marks : List ℕ) (n i : ℕ) → i < n → (get_or marks i 0 ≡ 1 → ⊥) → get_or (labels_by T lead marks n) i 0 ≡ 0
no_label T lead marks n i lt ne = label_is T lead marks n i lt ∙ label_out T lead marks i ne

pub some_label : (T : ℕ → Bool) (lead : ℕ → ℕ) (marks : List ℕ) (n i : ℕ) → LeadsBack T lead marks n → i < n → get_or marks i 0 ≡ 1 → 1 ≤ get_or (labels_by T lead marks n) i 0
some_label T lead marks n i leads lt one =
    let label = label_is T lead marks n i lt ∙ label_in T lead marks i one in
    let more = passed_yes T (lead i) (leads.passes i lt one) in
    omega arith

-- Two numbers with marks have one label exactly where they lead to one number.
pub same_label : (T : ℕ → Bool) (lead : ℕ → ℕ) (marks : List ℕ) (n i j : ℕ) → i < n → j < n → get_or marks i 0 ≡ 1 → get_or marks j 0 ≡ 1 → lead i ≡ lead j → get_or (labels_by T lead marks n) i 0 ≡ get_or (labels_by T lead marks n) j 0
same_label T lead marks n i j lt lt' one one' same =
    label_is T lead marks n i lt ∙ label_in T lead marks i one ∙ ap (λ (t : ℕ). passed T (t + 1)) same ∙ sym (label_is T lead marks n j lt' ∙ label_in T lead marks j one')

pub same_lead : (T : ℕ → Bool) (lead : ℕ → ℕ) (marks : List ℕ) (n i j : ℕ) → LeadsBack T lead marks n → i < n → j < n → get_or marks i 0 ≡ 1 → get_or marks j 0 ≡ 1
    → get_or (labels_by T lead marks n) i 0 ≡ get_or (labels_by T lead marks n) j 0 → lead i ≡ lead j
same_lead T lead marks n i j leads lt lt' one one' same =
    let label = label_is T lead marks n i lt ∙ label_in T lead marks i one in
    let label' = label_is T lead marks n j lt' ∙ label_in T lead marks j one' in
    let more = passed_yes T (lead i) (leads.passes i lt one) in
    let more' = passed_yes T (lead j) (leads.passes j lt' one') in
    elim (cases_order (lead i) (lead j)) [
      | inl is ↦ is
      | inr (inl less) ↦ let rise = passed_rise T (lead i + 1) (lead j) (omega arith) in absurd (omega arith)
      | inr (inr less) ↦ let rise = passed_rise T (lead j + 1) (lead i) (omega arith) in absurd (omega arith)
    ]

-- ---- they rise by one at a time

record Steps (T : ℕ → Bool) (i label : ℕ) : Type 0 where
  most : label ≤ passed T i + 1
  top : max (passed T i) label ≡ passed T (i + 1)

steps : (T : ℕ → Bool) (lead : ℕ → ℕ) (marks : List ℕ) (n i : ℕ) → LeadsBack T lead marks n → i < n → Steps T i (get_or (labels_by T lead marks n) i 0)
steps T lead marks n i leads lt = elim (cases_eq (get_or marks i 0) 1) [
  | inr ne ↦
      let none = no_label T lead marks n i lt ne in
      let more = passed_no T i (leads.test i ∙ and_left (get_or marks i 0 == 1) (lead i == i) (ne_eqb (get_or marks i 0) 1 ne)) in
      record { most = omega arith; top = omega arith }
  | inl one ↦
      let label = label_is T lead marks n i lt ∙ label_in T lead marks i one in
      let back = leads.back i lt one in
      elim (cases_eq (lead i) i) [
        | inl same ↦
            let more = passed_yes T i (leads.test i ∙ and_from (get_or marks i 0 == 1) (lead i == i) (eq-eqb (get_or marks i 0) 1 one) (eq-eqb (lead i) i same)) in
            let here = ap (λ (t : ℕ). passed T (t + 1)) same in
            record { most = omega arith; top = omega arith }
        | inr ne ↦
            let more = passed_no T i (leads.test i ∙ and_right (get_or marks i 0 == 1) (lead i == i) (ne_eqb (lead i) i ne)) in
            let rise = passed_rise T (lead i + 1) i (omega arith) in
            record { most = omega arith; top = omega arith }
      ]
]

greatest_before : (T : ℕ → Bool) (lead : ℕ → ℕ) (marks : List ℕ) (n i : ℕ) → LeadsBack T lead marks n → i ≤ n → greatest (take i (labels_by T lead marks n)) ≡ passed T i
greatest_before T lead marks n zero leads le = refl
greatest_before T lead marks n (suc i) leads le =
    let size = length-map-range_with_len (label_by T lead marks) 0 n in
    let rest = greatest_before T lead marks n i leads (omega arith) in
    let more = greatest_more (labels_by T lead marks n) i (omega arith) in
    let step = (steps T lead marks n i leads (omega arith)).top in
    let one : i + 1 ≡ suc i = omega arith in
    let next = ap (passed T) one in
    omega arith

pub labels_rise : (T : ℕ → Bool) (lead : ℕ → ℕ) (marks : List ℕ) (n i : ℕ) → LeadsBack T lead marks n → i < n → get_or (labels_by T lead marks n) i 0 ≤ greatest (take i (labels_by T lead marks n)) + 1
labels_rise T lead marks n i leads lt =
    let top = greatest_before T lead marks n i leads (omega arith) in
    let most = (steps T lead marks n i leads lt).most in
    omega arith

pub length-labels_by : (T : ℕ → Bool) (lead : ℕ → ℕ) (marks : List ℕ) (n : ℕ) → length (labels_by T lead marks n) ≡ n
length-labels_by T lead marks n = length-map-range_with_len (label_by T lead marks) 0 n

pub greatest-labels_by : (T : ℕ → Bool) (lead : ℕ → ℕ) (marks : List ℕ) (n : ℕ) → LeadsBack T lead marks n → greatest (labels_by T lead marks n) ≡ passed T n
greatest-labels_by T lead marks n leads =
    let size = length-labels_by T lead marks n in
    ap greatest (sym (take_all n (labels_by T lead marks n) (omega arith))) ∙ greatest_before T lead marks n n leads (omega arith)
