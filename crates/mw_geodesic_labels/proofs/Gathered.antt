-- What is told of components, run by run.
use Rattle.std.proofs.Common.{◌≡◌, ℕ, zero, suc, ◌+◌, ◌-◌, ◌*◌, ◌^◌, ◌<◌, ◌≤◌, List, [], ◌∷◌, length, get_or, set, min, max, refl, ap, sym, subst, arith, ◌∙◌, inl, inr}
use Rattle.std.specs.Prelude.{◌==◌, if◌then◌else◌}
use Rattle.std.proofs.lemmas.Bool.{cases_lt, cases_eq, eq-eqb, ne_eqb}
use Rattle.std.proofs.Math.Nat.{mul-le-mul_left}
use Rattle.std.proofs.lemmas.List.{get_or-set_same, get_or-set_other, length-set, get_or_push, get_or_append_left, length_push}
use Rattle.mw_model.specs.declared.offsets.Offset.{Offset}
use Rattle.mw_model.specs.Pictures.{Picture}
use Rattle.mw_geodesic_runs.specs.declared.runs.Run.{Run}
use Rattle.mw_geodesic_labels.specs.declared.regions.Region.{Region}
use Rattle.mw_geodesic_runs.specs.Runs.{run_numbered, RunsBefore}
use Rattle.mw_geodesic_runs.specs.Components.{AreComponents}
use Rattle.mw_geodesic_labels.specs.Gathering.{no_region, TellsRun, TellsMore, CanAdd, RunAdded, begun, added, area_of, HasNumberBefore, IsLeastOf, IsGreatestOf, IsGathered, AreGathered, AreWide}
use Rattle.mw_geodesic_runs.proofs.Joinings.{frame_run}
use Rattle.mw_geodesic_labels.specs.Painting.{begin_of}
use Rattle.mw_geodesic_labels.proofs.Paintings.{ends_before}

-- ---- the areas

one_run : (runs : List Run) (numbers : List ℕ) (n i : ℕ) → area_of runs numbers n (i + 1) ≡ area_of runs numbers n i + (if get_or numbers i 0 == n then (run_numbered runs i).end - (run_numbered runs i).first else 0)
one_run runs numbers n i = ap (area_of runs numbers n) (one i)
  where
    one : (i : ℕ) → i + 1 ≡ suc i
    one i = omega arith

pub area_here : (runs : List Run) (numbers : List ℕ) (n i : ℕ) → get_or numbers i 0 ≡ n → area_of runs numbers n (i + 1) ≡ area_of runs numbers n i + ((run_numbered runs i).end - (run_numbered runs i).first)
area_here runs numbers n i is =
    one_run runs numbers n i
    ∙ ap (λ b. area_of runs numbers n i + (if b then (run_numbered runs i).end - (run_numbered runs i).first else 0)) (eq-eqb (get_or numbers i 0) n is)

pub area_other : (runs : List Run) (numbers : List ℕ) (n i : ℕ) → (get_or numbers i 0 ≡ n → ⊥) → area_of runs numbers n (i + 1) ≡ area_of runs numbers n i
area_other runs numbers n i ne =
    one_run runs numbers n i
    ∙ ap (λ b. area_of runs numbers n i + (if b then (run_numbered runs i).end - (run_numbered runs i).first else 0)) (ne_eqb (get_or numbers i 0) n ne)
    ∙ nothing (area_of runs numbers n i)
  where
    nothing : (a : ℕ) → a + 0 ≡ a
    nothing a = omega arith

area_most : (runs : List Run) (numbers : List ℕ) (n i : ℕ) → area_of runs numbers n (suc i) ≤ area_of runs numbers n i + ((run_numbered runs i).end - (run_numbered runs i).first)
area_most runs numbers n i =
    let one : i + 1 ≡ suc i = omega arith in
    let is = ap (area_of runs numbers n) one in
    elim (cases_eq (get_or numbers i 0) n) [
      | inl here ↦ let more = area_here runs numbers n i here in omega arith
      | inr ne ↦ let same = area_other runs numbers n i ne in omega arith
    ]

area_before : (f : Picture) (runs : List Run) (numbers : List ℕ) (n i : ℕ) → RunsBefore f 0 f.height runs → i < length runs → area_of runs numbers n i ≤ begin_of f.width (run_numbered runs i)
area_before f runs numbers n zero before lt = omega arith
area_before f runs numbers n (suc i) before lt =
    let frame = frame_run f runs i before (omega arith) in
    let some = frame.run.some in
    let gap = ends_before f.width (run_numbered runs i) (run_numbered runs (suc i)) frame.run.within (omega arith) (before.order.each i (suc i) (omega arith) lt) in
    let most = area_most runs numbers n i in
    let old = area_before f runs numbers n i before (omega arith) in
    omega arith

pub are_wide : (e : List Offset) (f : Picture) (runs : List Run) (numbers : List ℕ) (count : ℕ) → f.height * f.width < 2 ^ 32 → AreComponents e f runs numbers count → AreWide runs numbers count
are_wide e f runs numbers count few are = record {
  size = are.size;
  run = λ i lt. (are.cut.each i lt).some;
  some = are.some;
  steps = are.steps;
  fits = λ n i lt.
      let frame = frame_run f runs i are.cut lt in
      let some = frame.run.some in
      let within = frame.run.within in
      let row = frame.row in
      let rows : (run_numbered runs i).row + 1 ≤ f.height = omega arith in
      let most = area_before f runs numbers n i are.cut lt in
      omega (arith, mul-le-mul_left f.width rows);
}

-- ---- one run more of another number

less_of : (numbers : List ℕ) (i n k : ℕ) → (get_or numbers i 0 ≡ n → ⊥) → HasNumberBefore numbers (i + 1) n k → HasNumberBefore numbers i n k
less_of numbers i n k ne of =
    let before = of.before in
    elim (cases_lt k i) [
      | inl less ↦ record { before = less; is = of.is }
      | inr from ↦
          let same : k ≡ i = omega arith in
          absurd (ne (ap (λ (t : ℕ). get_or numbers t 0) (sym same) ∙ of.is))
    ]

more_of : (numbers : List ℕ) (i n k : ℕ) → HasNumberBefore numbers i n k → HasNumberBefore numbers (i + 1) n k
more_of numbers i n k of = let before = of.before in record { before = omega arith; is = of.is }

gathered_other : (runs : List Run) (numbers : List ℕ) (i n : ℕ) (r : Region) → (get_or numbers i 0 ≡ n → ⊥) → IsGathered runs numbers i n r → IsGathered runs numbers (i + 1) n r
gathered_other runs numbers i n r ne was = record {
  first = record { at = was.first.at; of = more_of numbers i n was.first.at was.first.of; column = was.first.column; row = was.first.row; least = λ k of. was.first.least k (less_of numbers i n k ne of) };
  area = was.area ∙ sym (area_other runs numbers n i ne);
  left = record { at = was.left.at; of = more_of numbers i n was.left.at was.left.of; is = was.left.is; least = λ k of. was.left.least k (less_of numbers i n k ne of) };
  top = record { at = was.top.at; of = more_of numbers i n was.top.at was.top.of; is = was.top.is; least = λ k of. was.top.least k (less_of numbers i n k ne of) };
  right = record { at = was.right.at; of = more_of numbers i n was.right.at was.right.of; is = was.right.is; greatest = λ k of. was.right.greatest k (less_of numbers i n k ne of) };
  bottom = record { at = was.bottom.at; of = more_of numbers i n was.bottom.at was.bottom.of; is = was.bottom.is; greatest = λ k of. was.bottom.greatest k (less_of numbers i n k ne of) };
}

-- ---- one run more of this number

last_of : (numbers : List ℕ) (i n : ℕ) → get_or numbers i 0 ≡ n → HasNumberBefore numbers (i + 1) n i
last_of numbers i n is = record { before = omega arith; is = is }

least_more : (numbers : List ℕ) (i n : ℕ) (told : ℕ → ℕ) (v v' : ℕ) → get_or numbers i 0 ≡ n → v' ≡ min v (told i) → IsLeastOf numbers i n told v → IsLeastOf numbers (i + 1) n told v'
least_more numbers i n told v v' here is was = elim (cases_lt (told i) v) [
  | inr le ↦
      let same : v' ≡ v = omega arith in
      record { at = was.at; of = more_of numbers i n was.at was.of; is = same ∙ was.is; least = λ k of. below k of }
  | inl less ↦
      let same : v' ≡ told i = omega arith in
      record { at = i; of = last_of numbers i n here; is = same; least = λ k of. below k of }
]
  where
    below : (k : ℕ) → HasNumberBefore numbers (i + 1) n k → v' ≤ told k
    below k of =
        let before = of.before in
        elim (cases_lt k i) [
          | inl old ↦ let low = was.least k (record { before = old; is = of.is }) in omega arith
          | inr from ↦
              let same : k ≡ i = omega arith in
              let now : told k ≡ told i = ap told same in
              omega arith
        ]

greatest_more : (numbers : List ℕ) (i n : ℕ) (told : ℕ → ℕ) (v v' : ℕ) → get_or numbers i 0 ≡ n → v' ≡ max v (told i) → IsGreatestOf numbers i n told v → IsGreatestOf numbers (i + 1) n told v'
greatest_more numbers i n told v v' here is was = elim (cases_lt v (told i)) [
  | inr le ↦
      let same : v' ≡ v = omega arith in
      record { at = was.at; of = more_of numbers i n was.at was.of; is = same ∙ was.is; greatest = λ k of. above k of }
  | inl less ↦
      let same : v' ≡ told i = omega arith in
      record { at = i; of = last_of numbers i n here; is = same; greatest = λ k of. above k of }
]
  where
    above : (k : ℕ) → HasNumberBefore numbers (i + 1) n k → told k ≤ v'
    above k of =
        let before = of.before in
        elim (cases_lt k i) [
          | inl old ↦ let low = was.greatest k (record { before = old; is = of.is }) in omega arith
          | inr from ↦
              let same : k ≡ i = omega arith in
              let now : told k ≡ told i = ap told same in
              omega arith
        ]

gathered_more : (runs : List Run) (numbers : List ℕ) (i n : ℕ) (r r' : Region) → (run_numbered runs i).first < (run_numbered runs i).end → get_or numbers i 0 ≡ n → TellsMore r (run_numbered runs i) r' → IsGathered runs numbers i n r
    → IsGathered runs numbers (i + 1) n r'
gathered_more runs numbers i n r r' some here tells was =
    let first = was.first in
    let first_before = first.of.before in
    let right = tells.right in
    record {
      first = record {
        at = first.at;
        of = more_of numbers i n first.at first.of;
        column = tells.x ∙ first.column;
        row = tells.y ∙ first.row;
        least = λ k of. elim (cases_lt k i) [
          | inl old ↦ first.least k (record { before = old; is = of.is })
          | inr from ↦ omega arith
        ];
      };
      area = tells.area ∙ ap (λ (t : ℕ). t + ((run_numbered runs i).end - (run_numbered runs i).first)) was.area ∙ sym (area_here runs numbers n i here);
      left = least_more numbers i n (λ k. (run_numbered runs k).first) r.left r'.left here tells.left was.left;
      top = least_more numbers i n (λ k. (run_numbered runs k).row) r.top r'.top here tells.top was.top;
      right = greatest_more numbers i n (λ k. (run_numbered runs k).end) (r.right + 1) (r'.right + 1) here (omega arith) was.right;
      bottom = greatest_more numbers i n (λ k. (run_numbered runs k).row) r.bottom r'.bottom here tells.bottom was.bottom;
    }

-- ---- the first run of a number

no_area : (runs : List Run) (numbers : List ℕ) (n i : ℕ) → ((j : ℕ) → j < i → get_or numbers j 0 ≡ n → ⊥) → area_of runs numbers n i ≡ 0
no_area runs numbers n zero none = refl
no_area runs numbers n (suc i) none =
    let one : suc i ≡ i + 1 = omega arith in
    ap (area_of runs numbers n) one ∙ area_other runs numbers n i (none i (omega arith)) ∙ no_area runs numbers n i (λ j lt. none j (omega arith))

gathered_new : (runs : List Run) (numbers : List ℕ) (i n : ℕ) (r : Region) → ((j : ℕ) → j < i → get_or numbers j 0 ≡ n → ⊥) → get_or numbers i 0 ≡ n → TellsRun (run_numbered runs i) r → IsGathered runs numbers (i + 1) n r
gathered_new runs numbers i n r none here tells =
    let own = last_of numbers i n here in
    let area = tells.area in
    record {
      first = record { at = i; of = own; column = tells.x; row = tells.y; least = λ k of. let same = alone k of in omega arith };
      area = let more = area_here runs numbers n i here in let nothing = no_area runs numbers n i none in omega arith;
      left = record { at = i; of = own; is = tells.left; least = λ k of. let same = ap (λ (t : ℕ). (run_numbered runs t).first) (alone k of) in let is = tells.left in omega arith };
      top = record { at = i; of = own; is = tells.top; least = λ k of. let same = ap (λ (t : ℕ). (run_numbered runs t).row) (alone k of) in let is = tells.top in omega arith };
      right = record { at = i; of = own; is = tells.right; greatest = λ k of. let same = ap (λ (t : ℕ). (run_numbered runs t).end) (alone k of) in let is = tells.right in omega arith };
      bottom = record { at = i; of = own; is = tells.bottom; greatest = λ k of. let same = ap (λ (t : ℕ). (run_numbered runs t).row) (alone k of) in let is = tells.bottom in omega arith };
    }
  where
    alone : (k : ℕ) → HasNumberBefore numbers (i + 1) n k → k ≡ i
    alone k of =
        let before = of.before in
        elim (cases_lt k i) [
          | inl old ↦ absurd (none k old of.is)
          | inr from ↦ omega arith
        ]

-- ---- the list of regions

pub gathered_none : (runs : List Run) (numbers : List ℕ) → AreGathered runs numbers 0 []
gathered_none runs numbers = record {
  most = λ j lt. absurd (omega arith);
  each = λ k lt. absurd (omega arith);
}

pub can_add : (runs : List Run) (numbers : List ℕ) (count i : ℕ) (regions : List Region) → i < length runs → AreWide runs numbers count → AreGathered runs numbers i regions → CanAdd (run_numbered runs i) (get_or numbers i 0) regions
can_add runs numbers count i regions lt wide was = record {
  some = wide.run i lt;
  positive = wide.some i lt;
  next = elim (cases_lt (get_or numbers i 0) 2) [
    | inl low ↦ omega arith
    | inr two ↦ up (get_or numbers i 0) two (λ k one.
        let before = wide.steps i lt two k one in
        let most = was.most before.at before.before in
        let is = before.is in
        omega arith)
  ];
  fits = λ k inside.
      let is = (was.each k inside).area in
      let fits = wide.fits (k + 1) i lt in
      omega arith;
}
  where
    up : (n : ℕ) → 2 ≤ n → ((k : ℕ) → k + 1 ≡ n → k ≤ length regions) → n ≤ length regions + 1
    up zero two each = omega arith
    up (suc k) two each = let le = each k (omega arith) in omega arith

pub gathered_on : (runs : List Run) (numbers : List ℕ) (i n : ℕ) (run : Run) (regions regions' : List Region) → run ≡ run_numbered runs i → n ≡ get_or numbers i 0 → run.first < run.end → RunAdded run n regions regions' → AreGathered runs numbers i regions
    → AreGathered runs numbers (i + 1) regions'
gathered_on runs numbers i n run regions regions' run_is n_is some (begun r new tells) was =
    let size = length_push regions r in
    record {
      most = λ j lt. elim (cases_lt j i) [
        | inl old ↦ let most = was.most j old in omega arith
        | inr from ↦
            let same : j ≡ i = omega arith in
            let is : get_or numbers j 0 ≡ n = ap (λ (t : ℕ). get_or numbers t 0) same ∙ sym n_is in
            omega arith
      ];
      each = λ k lt. elim (cases_lt k (length regions)) [
        | inl old ↦
            let other : get_or numbers i 0 ≡ k + 1 → ⊥ = λ e. absurd (omega arith) in
            subst (λ (t : Region). IsGathered runs numbers (i + 1) (k + 1) t) (sym (get_or_append_left regions (r ∷ []) no_region k old)) (gathered_other runs numbers i (k + 1) (get_or regions k no_region) other (was.each k old))
        | inr from ↦
            let at : length regions ≡ k = omega arith in
            let here : get_or numbers i 0 ≡ k + 1 = omega arith in
            let none : (j : ℕ) → j < i → get_or numbers j 0 ≡ k + 1 → ⊥ = λ j less e. let most = was.most j less in absurd (omega arith) in
            subst (λ (t : Region). IsGathered runs numbers (i + 1) (k + 1) t) (sym (get_or_push regions r no_region k at))
            (gathered_new runs numbers i (k + 1) r none here (subst (λ (t : Run). TellsRun t r) run_is tells))
      ];
    }
gathered_on runs numbers i n run regions regions' run_is n_is some (added r m is within tells) was =
    let size = length-set regions m r in
    record {
      most = λ j lt. elim (cases_lt j i) [
        | inl old ↦ let most = was.most j old in omega arith
        | inr from ↦
            let same : j ≡ i = omega arith in
            let now : get_or numbers j 0 ≡ n = ap (λ (t : ℕ). get_or numbers t 0) same ∙ sym n_is in
            omega arith
      ];
      each = λ k lt. elim (cases_eq k m) [
        | inr ne ↦
            let other : get_or numbers i 0 ≡ k + 1 → ⊥ = λ e. ne (omega arith) in
            subst (λ (t : Region). IsGathered runs numbers (i + 1) (k + 1) t) (sym (get_or-set_other regions m k r no_region ne))
            (gathered_other runs numbers i (k + 1) (get_or regions k no_region) other (was.each k (omega arith)))
        | inl same ↦
            let here : get_or numbers i 0 ≡ m + 1 = omega arith in
            let some' : (run_numbered runs i).first < (run_numbered runs i).end = subst (λ (t : Run). t.first < t.end) run_is some in
            let more = gathered_more runs numbers i (m + 1) (get_or regions m no_region) r some' here (subst (λ (t : Run). TellsMore (get_or regions m no_region) t r) run_is tells) (was.each m within) in
            subst (λ (t : ℕ). IsGathered runs numbers (i + 1) (t + 1) (get_or (set regions m r) t no_region)) (sym same)
            (subst (λ (t : Region). IsGathered runs numbers (i + 1) (m + 1) t) (sym (get_or-set_same regions m r no_region within)) more)
      ];
    }
