-- The level of a step's plane is known before its samples are.
use Rattle.std.proofs.Common.{◌≡◌, ℕ, zero, suc, List, [], ◌∷◌, ◌++◌, map, get_or, refl, sym, ap, ◌∙◌, arith}
use Rattle.std.specs.List.{AllByRecursion}
use Rattle.std.proofs.lemmas.List.{map-append}
use Rattle.mw_model.specs.Pictures.{Picture}
use Rattle.mw_model.specs.PlanSteps.{PlanStep, kind_of_step, maxval_of_step}
use Rattle.mw_model.specs.Plans.{Plan, Planned, Source, FromInput, FromStep, IsSourceAt, no_picture, plane_of, plane_of_source, planes, planes_from}
use Rattle.mw_model.specs.Tasks.{nothing_planned}
use Rattle.mw_core_progress.specs.mw_core_planes.Levels.{Level, no_level, level_of, level_of_source, level_of_step, levels, levels_from}

-- the level behind the last is that of the image behind the last
pub get_or-map-level_of : (fs : List Picture) (k : ℕ) → get_or (map level_of fs) k no_level ≡ level_of (get_or fs k no_picture)
get_or-map-level_of [] k = refl
get_or-map-level_of (f ∷ fs) zero = refl
get_or-map-level_of (f ∷ fs) (suc k) = get_or-map-level_of fs k

level_of-source : (f : Picture) (made : List Picture) (k : ℕ) (s : Source) → IsSourceAt 1 k s → level_of_source (level_of f) (map level_of made) s ≡ level_of (plane_of_source (f ∷ []) made s)
level_of-source f made k (FromInput zero) is = refl
level_of-source f made k (FromInput (suc i)) is = absurd (omega arith)
level_of-source f made k (FromStep i) is = get_or-map-level_of made i

levels_of-sources : (f : Picture) (made : List Picture) (k : ℕ) (sources : List Source) → AllByRecursion (IsSourceAt 1 k) sources
    → map (level_of_source (level_of f) (map level_of made)) sources ≡ map level_of (map (plane_of_source (f ∷ []) made) sources)
levels_of-sources f made k [] all = refl
levels_of-sources f made k (s ∷ ss) all =
    ap (λ (l : Level). l ∷ map (level_of_source (level_of f) (map level_of made)) ss) (level_of-source f made k s all.0)
    ∙ ap (λ (ls : List Level). level_of (plane_of_source (f ∷ []) made s) ∷ ls) (levels_of-sources f made k ss all.1)

-- a step's level by the levels of its sources is that of its plane
pub level_of-plane_of : (s : PlanStep) (sources : List Picture) (width height : ℕ) → level_of_step s (map level_of sources) ≡ level_of (plane_of s sources width height)
level_of-plane_of s sources width height =
    let first = get_or-map-level_of sources 0 in
    λ i. record { kind = kind_of_step s (first i).kind; maxval = maxval_of_step s (first i).maxval }

level_of-next : (s : Planned) (f : Picture) (made : List Picture) (width height k : ℕ) → AllByRecursion (IsSourceAt 1 k) s.sources
    → level_of_step s.step (map (level_of_source (level_of f) (map level_of made)) s.sources) ≡ level_of (plane_of s.step (map (plane_of_source (f ∷ []) made) s.sources) width height)
level_of-next s f made width height k all =
    ap (level_of_step s.step) (levels_of-sources f made k s.sources all) ∙ level_of-plane_of s.step (map (plane_of_source (f ∷ []) made) s.sources) width height

levels_from-planes_from : (plan : Plan) (f : Picture) (made : List Picture) (width height : ℕ) (place : ℕ → ℕ) → ((k : ℕ) → AllByRecursion (IsSourceAt 1 (place k)) (get_or plan k nothing_planned).sources)
    → levels_from plan (level_of f) (map level_of made) ≡ map level_of (planes_from plan (f ∷ []) made width height)
levels_from-planes_from [] f made width height place each = refl
levels_from-planes_from (s ∷ ss) f made width height place each =
    let next = plane_of s.step (map (plane_of_source (f ∷ []) made) s.sources) width height in
    ap (λ (l : Level). levels_from ss (level_of f) (map level_of made ++ l ∷ [])) (level_of-next s f made width height (place 0) (each 0))
    ∙ ap (levels_from ss (level_of f)) (sym (map-append level_of made (next ∷ [])))
    ∙ levels_from-planes_from ss f (made ++ next ∷ []) width height (λ k. place (suc k)) (λ k. each (suc k))

-- the levels of a plan's steps are those of its planes
pub levels-planes : (plan : Plan) (f : Picture) (width height : ℕ) → ((k : ℕ) → AllByRecursion (IsSourceAt 1 k) (get_or plan k nothing_planned).sources)
    → levels plan (level_of f) ≡ map level_of (planes plan (f ∷ []) width height)
levels-planes plan f width height each = levels_from-planes_from plan f [] width height (λ k. k) each
