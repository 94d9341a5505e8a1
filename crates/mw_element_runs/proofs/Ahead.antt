-- Runs that grow by several offsets at a time.
use Rattle.std.proofs.Common.{◌≡◌, ℕ, zero, suc, ◌+◌, ◌≤◌, pos, List, length, take, drop, ap, sym, subst, inl, inr, arith, ◌∙◌}
use Rattle.std.proofs.lemmas.Bool.{cases_lt}
use Rattle.mw_model.specs.declared.offsets.Offset.{Offset}
use Rattle.mw_element_runs.specs.Ahead.{AllContinue}
use Rattle.mw_element_runs.specs.Runs.{run_offsets, offset_at, Continues}
use Rattle.mw_element_runs.proofs.RunLists.{run_more}

-- the next one continues them, too
pub all_more : (offsets : List Offset) (from count n : ℕ) → AllContinue offsets from count n
    → Continues (record { dx = (offset_at offsets from).dx; dy = (offset_at offsets from).dy; count = count + n }) (offset_at offsets (from + count + n)) → AllContinue offsets from count (n + 1)
all_more offsets from count n all here =
    λ i less.
    elim (cases_lt i n) [
      | inl inside ↦ all i inside
      | inr past ↦
          let last : n ≡ i = omega arith in
          subst (λ (t : ℕ). Continues (record { dx = (offset_at offsets from).dx; dy = (offset_at offsets from).dy; count = count + t }) (offset_at offsets (from + count + t))) last here
    ]

-- as many offsets more as continue it
pub run_many : (offsets : List Offset) (from count n : ℕ) → AllContinue offsets from count n → from + count + n ≤ length offsets
    → run_offsets (record { dx = (offset_at offsets from).dx; dy = (offset_at offsets from).dy; count = count }) ≡ take count (drop from offsets)
    → run_offsets (record { dx = (offset_at offsets from).dx; dy = (offset_at offsets from).dy; count = count + n }) ≡ take (count + n) (drop from offsets)
run_many offsets from count zero all room so_far = subst (λ (t : ℕ). run_offsets (record { dx = (offset_at offsets from).dx; dy = (offset_at offsets from).dy; count = t }) ≡ take t (drop from offsets)) (omega arith) so_far
run_many offsets from count (suc n) all room so_far =
    let none : Offset = record { dx = pos 0; dy = pos 0 } in
    let first = offset_at offsets from in
    let last = all n (omega arith) in
    let place : from + count + n ≡ from + (count + n) = omega arith in
    let here : Offset = offset_at offsets (from + (count + n)) in
    let same : offset_at offsets (from + count + n) ≡ here = ap (λ (t : ℕ). offset_at offsets t) place in
    run_more offsets from (count + n) (count + suc n) first.dx first.dy none (omega arith) (omega arith)
    (ap (λ (t : Offset). t.dx) (sym same) ∙ last.dx) (ap (λ (t : Offset). t.dy) (sym same) ∙ last.dy)
    (run_many offsets from count n (λ i less. all i (omega arith)) (omega arith) so_far)
