-- The numbers of the steps that sum up.
use Rattle.std.proofs.Common.{◌≡◌, ℕ, ◌+◌, ◌<◌, Bool, true, false, List, [], ◌∷◌, ◌++◌, length, drop, get_or, sym, ap, ◌∙◌, arith}
use Rattle.std.proofs.lemmas.List.{drop_more, append_assoc}
use Rattle.mw_model.specs.Plans.{Plan, is_sum, with_number}
use Rattle.mw_model.specs.Tasks.{nothing_planned}
use Rattle.mw_grid.specs.Grids.{Tiling}
use Rattle.mw_core_planes.specs.mw_tile_planes.Sums.{number_in}
use Rattle.mw_core_planes.specs.StepPlanes.{shown, no_place, place_at, planes_shown}
use Rattle.mw_core_planes.specs.declared.step_planes.StepPlane.{StepPlane}
use Rattle.mw_core_progress.specs.ProgressView.{numbers_of}

-- one step more
pub numbers_more : (plan : Plan) (g : Tiling) (places : List StepPlane) (k : ℕ) → k < length plan → length plan ≡ length places
    → numbers_of (drop k plan) (planes_shown g (drop k places)) ≡ with_number (is_sum (get_or plan k nothing_planned).step) (number_in (shown g (place_at places k))) (numbers_of (drop (k + 1) plan) (planes_shown g (drop (k + 1) places)))
numbers_more plan g places k lt size =
    ap (λ (ps : Plan). numbers_of ps (planes_shown g (drop k places))) (drop_more plan k nothing_planned lt)
    ∙ ap (λ (ps : List StepPlane). numbers_of (get_or plan k nothing_planned ∷ drop (k + 1) plan) (planes_shown g ps)) (drop_more places k no_place (omega arith))

-- the numbers so far and those that are left, after a step that sums up and after one that does not
pub more_sum : (plan : Plan) (g : Tiling) (places : List StepPlane) (k : ℕ) (old new : List ℕ) (n : ℕ) → k < length plan → length plan ≡ length places → old ++ numbers_of (drop k plan) (planes_shown g (drop k places)) ≡ numbers_of plan (planes_shown g places)
    → is_sum (get_or plan k nothing_planned).step ≡ true → n ≡ number_in (shown g (place_at places k)) → new ≡ old ++ n ∷ [] → new ++ numbers_of (drop (k + 1) plan) (planes_shown g (drop (k + 1) places)) ≡ numbers_of plan (planes_shown g places)
more_sum plan g places k old new n lt size before sums n-is new-is =
    let rest = numbers_of (drop (k + 1) plan) (planes_shown g (drop (k + 1) places)) in
    ap (λ (xs : List ℕ). xs ++ rest) new-is
    ∙ append_assoc old (n ∷ []) rest
    ∙ ap (λ (m : ℕ). old ++ (m ∷ rest)) n-is
    ∙ ap (λ (b : Bool). old ++ with_number b (number_in (shown g (place_at places k))) rest) (sym sums)
    ∙ ap (λ (xs : List ℕ). old ++ xs) (sym (numbers_more plan g places k lt size))
    ∙ before

pub more_none : (plan : Plan) (g : Tiling) (places : List StepPlane) (k : ℕ) (old : List ℕ) → k < length plan → length plan ≡ length places → old ++ numbers_of (drop k plan) (planes_shown g (drop k places)) ≡ numbers_of plan (planes_shown g places)
    → is_sum (get_or plan k nothing_planned).step ≡ false → old ++ numbers_of (drop (k + 1) plan) (planes_shown g (drop (k + 1) places)) ≡ numbers_of plan (planes_shown g places)
more_none plan g places k old lt size before unsummed =
    let rest = numbers_of (drop (k + 1) plan) (planes_shown g (drop (k + 1) places)) in
    ap (λ (b : Bool). old ++ with_number b (number_in (shown g (place_at places k))) rest) (sym unsummed)
    ∙ ap (λ (xs : List ℕ). old ++ xs) (sym (numbers_more plan g places k lt size))
    ∙ before
