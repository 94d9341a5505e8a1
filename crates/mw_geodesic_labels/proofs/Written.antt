-- An array that is written once from its first place on: what stands at the places that are done.
use Rattle.std.proofs.Common.{◌≡◌, ℕ, ◌+◌, ◌-◌, ◌<◌, ◌≤◌, List, length, get_or, refl, ap, sym, subst, arith, ◌∙◌, inl, inr}
use Rattle.std.proofs.lemmas.Bool.{cases_lt}
use Rattle.std.proofs.lemmas.List.{ext_get_or}
use Rattle.mw_geodesic_runs.specs.declared.runs.Run.{Run}
use Rattle.mw_geodesic_runs.specs.Runs.{run_numbered}
use Rattle.mw_geodesic_labels.specs.Overwriting.{IsOverwritten}
use Rattle.mw_geodesic_labels.specs.Painting.{painted, painted_runs, begin_of, stop_of, RunsFit}
use Rattle.mw_geodesic_labels.proofs.Paintings.{blank, blank_zero, length-blank, runs_more, length-painted_runs, painted_inside, painted_outside, unpainted}

-- the places before this one are as the first i runs have them, which all end before it, and the others begin behind it
pub record WrittenUpTo (w : ℕ) (runs : List Run) (numbers : List ℕ) (i at size : ℕ) (labels : List ℕ) : Type 0 where
  pub as_many : length labels ≡ size
  pub within : at ≤ size
  pub past : (j : ℕ) → j < i → stop_of w (run_numbered runs j) ≤ at
  pub ahead : (j : ℕ) → i ≤ j → j < length runs → at ≤ begin_of w (run_numbered runs j)
  pub done : (k : ℕ) → k < at → get_or labels k 0 ≡ get_or (painted_runs w runs numbers i (blank size)) k 0

pub writing_begins : (w : ℕ) (runs : List Run) (numbers : List ℕ) (labels : List ℕ) → WrittenUpTo w runs numbers 0 0 (length labels) labels
writing_begins w runs numbers labels = record {
  as_many = refl;
  within = omega arith;
  past = λ j lt. absurd (omega arith);
  ahead = λ j from lt. omega arith;
  done = λ k lt. absurd (omega arith);
}

-- where none of the first runs is, they leave 0
gap : (w : ℕ) (runs : List Run) (numbers : List ℕ) (i at size k : ℕ) → i ≤ length runs → RunsFit w size runs → ((j : ℕ) → j < i → stop_of w (run_numbered runs j) ≤ at) → at ≤ k → get_or (painted_runs w runs numbers i (blank size)) k 0 ≡ 0
gap w runs numbers i at size k le fits past from =
    unpainted w runs numbers i (blank size) k (λ j lt. fits.order j (omega arith)) (λ j lt low high. let end = past j lt in absurd (omega arith))
    ∙ blank_zero size k

pub writing_on : (w : ℕ) (runs : List Run) (numbers : List ℕ) (i m at first end size : ℕ) (labels mid new : List ℕ) → RunsFit w size runs → i < length runs → m ≡ i + 1 → first ≡ begin_of w (run_numbered runs i) → end ≡ stop_of w (run_numbered runs i)
    → IsOverwritten at first 0 labels mid → IsOverwritten first end (get_or numbers i 0) mid new → WrittenUpTo w runs numbers i at size labels → WrittenUpTo w runs numbers m end size new
writing_on w runs numbers i m at first end size labels mid new fits lt next is_first is_end zeros ones was =
    let r = run_numbered runs i in
    let order = fits.order i lt in
    let room = fits.room i lt in
    let ahead = was.ahead i (omega arith) lt in
    let xs = painted_runs w runs numbers i (blank size) in
    let n = stop_of w r - begin_of w r in
    let length_is = length-painted_runs w runs numbers i (blank size) in
    let blank_is = length-blank size in
    let more : (k : ℕ) → get_or (painted_runs w runs numbers m (blank size)) k 0 ≡ get_or (painted (begin_of w r) n (get_or numbers i 0) xs) k 0 =
    λ k. ap (λ (t : List ℕ). get_or t k 0) (runs_more w runs numbers i m (blank size) next) in
    record {
      as_many = ones.size ∙ zeros.size ∙ was.as_many;
      within = omega arith;
      past = λ j less. elim (cases_lt j i) [
        | inl before ↦ let past = was.past j before in omega arith
        | inr from ↦ let same : j ≡ i = omega arith in let is = ap (λ (t : ℕ). stop_of w (run_numbered runs t)) same in omega arith
      ];
      ahead = λ j from less. let apart = fits.apart i j (omega arith) less in omega arith;
      done = λ k less. elim (cases_lt k first) [
        | inr from ↦ ones.here k 0 from less ∙ sym (more k ∙ painted_inside (begin_of w r) n (get_or numbers i 0) xs k (omega arith) (omega arith) (omega arith))
        | inl before ↦
            let same : get_or (painted_runs w runs numbers m (blank size)) k 0 ≡ get_or xs k 0 = more k ∙ painted_outside (begin_of w r) n (get_or numbers i 0) xs k (inl (omega arith)) in
            let is : get_or mid k 0 ≡ get_or xs k 0 = elim (cases_lt k at) [
              | inl done ↦ zeros.before k 0 done ∙ was.done k done
              | inr left ↦ zeros.here k 0 left before ∙ sym (gap w runs numbers i at size k (omega arith) fits was.past left)
            ] in
            ones.before k 0 before ∙ is ∙ sym same
      ];
    }

written_whole : (w : ℕ) (runs : List Run) (numbers : List ℕ) (at size : ℕ) (labels new : List ℕ) → RunsFit w size runs → IsOverwritten at size 0 labels new → WrittenUpTo w runs numbers (length runs) at size labels
    → new ≡ painted_runs w runs numbers (length runs) (blank size)
written_whole w runs numbers at size labels new fits zeros was =
    let whole = painted_runs w runs numbers (length runs) (blank size) in
    let size_is : length new ≡ size = zeros.size ∙ was.as_many in
    let same : length new ≡ length whole = size_is ∙ sym (length-painted_runs w runs numbers (length runs) (blank size) ∙ length-blank size) in
    ext_get_or 0 new whole same (λ k lt. elim (cases_lt k at) [
      | inl done ↦ zeros.before k 0 done ∙ was.done k done
      | inr left ↦ zeros.here k 0 left (omega arith) ∙ sym (gap w runs numbers (length runs) at size k (omega arith) fits was.past left)
    ])

pub writing_ended : (w : ℕ) (runs : List Run) (numbers : List ℕ) (i at end size : ℕ) (labels new : List ℕ) → RunsFit w size runs → i ≡ length runs → end ≡ size → IsOverwritten at end 0 labels new → WrittenUpTo w runs numbers i at size labels
    → new ≡ painted_runs w runs numbers (length runs) (blank size)
writing_ended w runs numbers i at end size labels new fits all whole zeros was =
    written_whole w runs numbers at size labels new fits (subst (λ (t : ℕ). IsOverwritten at t 0 labels new) whole zeros) (subst (λ (t : ℕ). WrittenUpTo w runs numbers t at size labels) all was)
