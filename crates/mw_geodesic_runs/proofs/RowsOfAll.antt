-- Runs of the first rows are the first of all runs.
use Rattle.std.proofs.Common.{◌≡◌, ℕ, zero, suc, ◌+◌, ◌<◌, ◌≤◌, List, [], ◌++◌, length, refl, ap, sym, subst, arith, ◌∙◌, inl, inr, length-append}
use Rattle.std.proofs.lemmas.Bool.{cases_lt}
use Rattle.std.proofs.lemmas.List.{get_or-append-add}
use Rattle.mw_model.specs.Pictures.{Picture, sample}
use Rattle.mw_geodesic_runs.specs.declared.runs.Run.{Run}
use Rattle.mw_geodesic_runs.specs.Runs.{no_run, run_numbered, HasPlace, IsRunOfSet, Precedes, IsBefore, RunsBefore}
use Rattle.mw_geodesic_runs.specs.Rows.{AreCutAbove, AreRowRunsFrom, HasRuns}
use Rattle.mw_geodesic_runs.proofs.Cuts.{runs_none}

pub same_fields : (a b : Run) → a.row ≡ b.row → a.first ≡ b.first → a.end ≡ b.end → a ≡ b
same_fields a b row first end =
    let one : a ≡ record { row = b.row; first = a.first; end = a.end } = ap (λ (t : ℕ). record { row = t; first = a.first; end = a.end }) row in
    let two : record { row = b.row; first = a.first; end = a.end } ≡ record { row = b.row; first = b.first; end = a.end } = ap (λ (t : ℕ). record { row = b.row; first = t; end = a.end }) first in
    let three : record { row = b.row; first = b.first; end = a.end } ≡ b = ap (λ (t : ℕ). record { row = b.row; first = b.first; end = t }) end in
    one ∙ two ∙ three

-- a run does not hold the first place of one that it precedes
not_first : (a b : Run) → Precedes a b → HasPlace a b.first b.row → ⊥
not_first a b (inl above) holds = let row = holds.row in omega arith
not_first a b (inr same) holds = let gap = same.1 in let to = holds.to in omega arith

-- runs of the rows above row y are in those rows
above : (f : Picture) (y : ℕ) (a : List Run) (i : ℕ) → RunsBefore f 0 y a → i < length a → (run_numbered a i).row < y
above f y a i before lt =
    let some = (before.each i lt).some in
    elim (before.ends i lt) [
      | inl less ↦ less
      | inr none ↦ absurd (omega (arith, none.1))
    ]

-- two runs of a set that begin at one place are one
one_run : (f : Picture) (a b : Run) → IsRunOfSet f a → IsRunOfSet f b → a.row ≡ b.row → a.first ≡ b.first → a ≡ b
one_run f a b is is' row first =
    let some = is.some in
    let some' = is'.some in
    let within = is.within in
    let within' = is'.within in
    let end : a.end ≡ b.end = elim (cases_lt a.end b.end) [
      | inl less ↦
          let none = is.stops (omega arith) in
          let one : sample f a.end a.row ≡ 1 = ap (λ (t : ℕ). sample f a.end t) row ∙ is'.inside a.end (omega arith) less in
          absurd (omega arith)
      | inr from ↦ elim (cases_lt b.end a.end) [
        | inl more ↦
            let none = is'.stops (omega arith) in
            let one : sample f b.end b.row ≡ 1 = ap (λ (t : ℕ). sample f b.end t) (sym row) ∙ is.inside b.end (omega arith) more in
            absurd (omega arith)
        | inr to ↦ omega arith
      ]
    ] in
    same_fields a b row first end

-- the runs before number n are the same in both
record SameBelow (a b : List Run) (n : ℕ) : Type 0 where
  within : n ≤ length b
  same : (i : ℕ) → i < n → run_numbered a i ≡ run_numbered b i

-- a run before number n that holds a place
record HeldBelow (b : List Run) (n u v : ℕ) : Type 0 where
  at : ℕ
  below : at < n
  holds : HasPlace (run_numbered b at) u v

-- what comes before the first place of a run is held by runs before it
held_below : (f : Picture) (y : ℕ) (a b : List Run) (n u v : ℕ) → RunsBefore f 0 y a → n < length a → SameBelow a b n → u < f.width → IsBefore u v (run_numbered a n).first (run_numbered a n).row → sample f u v ≡ 1 → HeldBelow b n u v
held_below f y a b n u v before lt was inside earlier one =
    let r = run_numbered a n in
    let high = above f y a n before lt in
    let in_rows : IsBefore u v 0 y = elim earlier [
      | inl less ↦ inl (omega arith)
      | inr same ↦ let row = same.0 in inl (omega arith)
    ] in
    let held = before.all u v inside in_rows one in
    let held_within = held.within in
    let holds = held.holds in
    let row = holds.row in
    let from = holds.from in
    elim (cases_lt held.at n) [
      | inl below ↦ record { at = held.at; below = below; holds = subst (λ (t : Run). HasPlace t u v) (was.same held.at below) holds }
      | inr past ↦ elim (cases_lt n held.at) [
        | inr le ↦
            let same : held.at ≡ n = omega arith in
            let here : HasPlace r u v = subst (λ (t : ℕ). HasPlace (run_numbered a t) u v) same holds in
            let row' = here.row in
            let from' = here.from in
            absurd (elim earlier [ inl less ↦ omega arith | inr left ↦ let less = left.1 in omega arith ])
        | inl behind ↦ absurd (elim (before.order.each n held.at behind held_within) [
          | inl over ↦ elim earlier [ inl less ↦ omega arith | inr left ↦ let at = left.0 in omega arith ]
          | inr gap ↦
              let at = gap.0 in
              let apart = gap.1 in
              let some = (before.each n lt).some in
              elim earlier [ inl less ↦ omega arith | inr left ↦ let less = left.1 in omega arith ]
        ])
      ]
    ]

next_same : (f : Picture) (y : ℕ) (a b : List Run) (n : ℕ) → RunsBefore f 0 y a → RunsBefore f 0 f.height b → y ≤ f.height → n < length a → SameBelow a b n → (n < length b) × (run_numbered a n ≡ run_numbered b n)
next_same f y a b n before all low lt was =
    let r = run_numbered a n in
    let is = before.each n lt in
    let some = is.some in
    let within = is.within in
    let high = above f y a n before lt in
    let held = all.all r.first r.row (omega arith) (inl (omega arith)) (is.inside r.first (omega arith) some) in
    let j = held.at in
    let j_within = held.within in
    let s = run_numbered b j in
    let holds = held.holds in
    let row = holds.row in
    let from = holds.from in
    let is' = all.each j j_within in
    let some' = is'.some in
    let within' = is'.within in
    let ahead : n ≤ j = elim (cases_lt j n) [
      | inr le ↦ le
      | inl less ↦ absurd (not_first (run_numbered a j) r (before.order.each j n less lt) (subst (λ (t : Run). HasPlace t r.first r.row) (sym (was.same j less)) holds))
    ] in
    let first : s.first ≡ r.first = elim (cases_lt s.first r.first) [
      | inr le ↦ omega arith
      | inl less ↦
          let earlier = held_below f y a b n s.first s.row before lt was (omega arith) (inr (sym row, less)) (is'.inside s.first (omega arith) some') in
          let below = earlier.below in
          absurd (not_first (run_numbered b earlier.at) s (all.order.each earlier.at j (omega arith) j_within) earlier.holds)
    ] in
    let at : j ≡ n = elim (cases_lt n j) [
      | inr le ↦ omega arith
      | inl less ↦
          let t = run_numbered b n in
          let is_t = all.each n (omega arith) in
          let some_t = is_t.some in
          let within_t = is_t.within in
          let before_r : IsBefore t.first t.row r.first r.row = elim (all.order.each n j less j_within) [
            | inl over ↦ inl (omega arith)
            | inr same ↦ let at = same.0 in let gap = same.1 in inr (omega arith, omega arith)
          ] in
          let earlier = held_below f y a b n t.first t.row before lt was (omega arith) before_r (is_t.inside t.first (omega arith) some_t) in
          absurd (not_first (run_numbered b earlier.at) t (all.order.each earlier.at n earlier.below (omega arith)) earlier.holds)
    ] in
    (omega arith, one_run f r s is is' row (sym first) ∙ ap (run_numbered b) at)

same_below : (f : Picture) (y : ℕ) (a b : List Run) (n : ℕ) → RunsBefore f 0 y a → RunsBefore f 0 f.height b → y ≤ f.height → n ≤ length a → SameBelow a b n
same_below f y a b zero before all low le = record { within = omega arith; same = λ i lt. absurd (omega arith) }
same_below f y a b (suc n) before all low le =
    let was = same_below f y a b n before all low (omega arith) in
    let next = next_same f y a b n before all low (omega arith) was in
    let next_within = next.0 in
    record {
      within = omega arith;
      same = λ i lt. elim (cases_lt i n) [
        | inl less ↦ was.same i less
        | inr from ↦
            let at : i ≡ n = omega arith in
            ap (run_numbered a) at ∙ next.1 ∙ ap (run_numbered b) (sym at)
      ];
    }

-- ---- rows

pub cut_none : (f : Picture) → AreCutAbove f 0 0
cut_none f = record { runs = []; cut = runs_none f; many = refl }

pub cut_next : (f : Picture) (y n : ℕ) (row : List Run) → ((runs : List Run) → RunsBefore f 0 y runs → RunsBefore f 0 (y + 1) (runs ++ row)) → AreCutAbove f y n → AreCutAbove f (y + 1) (n + length row)
cut_next f y n row next was = record {
  runs = was.runs ++ row;
  cut = next was.runs was.cut;
  many = let many = was.many in omega (arith, length-append was.runs row);
}

pub row_is : (f : Picture) (y n : ℕ) (all row : List Run) → y < f.height → RunsBefore f 0 f.height all → ((runs : List Run) → RunsBefore f 0 y runs → RunsBefore f 0 (y + 1) (runs ++ row)) → AreCutAbove f y n → AreRowRunsFrom all n row
row_is f y n all row high whole next was =
    let many = was.many in
    let size = length-append was.runs row in
    let same = same_below f (y + 1) (was.runs ++ row) all (length (was.runs ++ row)) (next was.runs was.cut) whole (omega arith) (omega arith) in
    let within = same.within in
    record {
      within = omega arith;
      same = λ k lt.
          let at : n + k ≡ length was.runs + k = omega arith in
          ap (run_numbered all) at
          ∙ sym (same.same (length was.runs + k) (omega arith))
          ∙ get_or-append-add was.runs row k no_run;
    }

-- runs before number n are in the rows above row y, and no others
pub record AreSplit (runs : List Run) (y n : ℕ) : Type 0 where
  pub over : (i : ℕ) → i < n → (run_numbered runs i).row < y
  pub under : (i : ℕ) → n ≤ i → i < length runs → y ≤ (run_numbered runs i).row

pub split : (f : Picture) (y n : ℕ) (all : List Run) → y ≤ f.height → RunsBefore f 0 f.height all → AreCutAbove f y n → AreSplit all y n
split f y n all low whole was =
    let many = was.many in
    let same = same_below f y was.runs all (length was.runs) was.cut whole low (omega arith) in
    record {
      over = λ i lt.
          let high = above f y was.runs i was.cut (omega arith) in
          let row = ap (λ (t : Run). t.row) (same.same i (omega arith)) in
          omega arith;
      under = λ i from lt. elim (cases_lt (run_numbered all i).row y) [
        | inr le ↦ le
        | inl less ↦
            let r = run_numbered all i in
            let is = whole.each i lt in
            let some = is.some in
            let within = is.within in
            let held = was.cut.all r.first r.row (omega arith) (inl less) (is.inside r.first (omega arith) some) in
            let held_within = held.within in
            let holds : HasPlace (run_numbered all held.at) r.first r.row = subst (λ (t : Run). HasPlace t r.first r.row) (same.same held.at held_within) held.holds in
            absurd (not_first (run_numbered all held.at) r (whole.order.each held.at i (omega arith) lt) holds)
      ];
    }

pub cut_within : (f : Picture) (y n : ℕ) (all : List Run) → y ≤ f.height → RunsBefore f 0 f.height all → AreCutAbove f y n → n ≤ length all
cut_within f y n all low whole was =
    let many = was.many in
    let within = (same_below f y was.runs all (length was.runs) was.cut whole low (omega arith)).within in
    omega arith

pub cut_first : (f : Picture) (n : ℕ) → AreCutAbove f 0 n → n ≡ 0
cut_first f n was =
    let many = was.many in
    let few = was.cut.few in
    omega arith

-- all rows are cut
pub all_cut : (f : Picture) (y n : ℕ) → y ≡ f.height → AreCutAbove f y n → HasRuns f
all_cut f y n end was = record { runs = was.runs; cut = subst (λ (t : ℕ). RunsBefore f 0 t was.runs) end was.cut }

pub cut_all : (f : Picture) (y n : ℕ) (all : List Run) → y ≡ f.height → RunsBefore f 0 f.height all → AreCutAbove f y n → n ≡ length all
cut_all f y n all end whole was =
    let many = was.many in
    let same = same_below f y was.runs all (length was.runs) was.cut whole (omega arith) (omega arith) in
    let within = same.within in
    let is = split f y n all (omega arith) whole was in
    elim (cases_lt n (length all)) [
      | inr le ↦ omega arith
      | inl less ↦
          let low = is.under n (omega arith) less in
          let high = above f f.height all n whole less in
          absurd (omega arith)
    ]
