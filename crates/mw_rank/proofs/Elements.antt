-- The offsets of runs, one after another.
use Rattle.std.proofs.Common.{◌≡◌, ℕ, zero, suc, ◌+◌, ◌-◌, ◌<◌, ℤ, pos, ◌+ℤ◌, List, [], ◌∷◌, ◌++◌, map, flat_map, refl, ap, sym, arith, ◌∙◌}
use Rattle.std.specs.List.{range_with_len, AllByRecursion}
use Rattle.std.proofs.lemmas.Int.{ints}
use Rattle.std.proofs.lemmas.List.Concat.{flat_map-cons}
use Rattle.mw_model.specs.declared.offsets.Offset.{Offset}
use Rattle.mw_element_runs.specs.declared.runs.Run.{Run}
use Rattle.mw_element_runs.specs.Runs.{run_offsets, start_offset, IsRun}
use Rattle.mw_rank.specs.Runs.{offsets_from, offsets_of_run, element_of}
use Rattle.mw_rank.proofs.Sights.{at_dx}

offsets_from-range : (dx dy : ℤ) (k n : ℕ) → offsets_from (record { dx = dx +ℤ pos k; dy = dy }) n ≡ map (λ i. let b : Offset = record { dx = dx +ℤ pos i; dy = dy } in b) (range_with_len k n)
offsets_from-range dx dy k zero = refl
offsets_from-range dx dy k (suc n) =
    ap (λ (t : List Offset). record { dx = dx +ℤ pos k; dy = dy } ∷ t)
    (ap (λ (t : Offset). offsets_from t n) (at_dx (dx +ℤ pos k +ℤ pos 1) (dx +ℤ pos (k + 1)) dy (omega (arith, ints))) ∙ offsets_from-range dx dy (k + 1) n)

offsets_of-run : (r : Run) → 0 < r.count → offsets_of_run r ≡ run_offsets r
offsets_of-run r some =
    ap (λ (n : ℕ). offsets_from (start_offset r) n) (let whole : suc (r.count - 1) ≡ r.count = omega arith in whole)
    ∙ ap (λ (b : Offset). offsets_from b r.count) (at_dx r.dx (r.dx +ℤ pos 0) r.dy (omega (arith, ints)))
    ∙ offsets_from-range r.dx r.dy 0 r.count

pub element_of-runs : (runs : List Run) → AllByRecursion IsRun runs → element_of runs ≡ flat_map run_offsets runs
element_of-runs [] all = refl
element_of-runs (r ∷ rs) all =
    flat_map-cons offsets_of_run r rs
    ∙ ap (λ (t : List Offset). t ++ element_of rs) (offsets_of-run r all.0.some)
    ∙ ap (λ (t : List Offset). run_offsets r ++ t) (element_of-runs rs all.1)
    ∙ sym (flat_map-cons run_offsets r rs)
