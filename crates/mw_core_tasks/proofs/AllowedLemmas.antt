-- Steps can be made of what they read exactly where the levels of what they read allow it.
use Rattle.std.proofs.Common.{◌≡◌, ℕ, zero, suc, ◌<◌, ◌≤◌, List, [], ◌∷◌, length, map, get_or, refl, sym, ap, ◌∙◌, subst, arith}
use Rattle.std.proofs.lemmas.List.{length-map}
use Rattle.std.specs.List.{AllByRecursion}
use Rattle.mw_model.specs.Pictures.{Picture}
use Rattle.mw_model.specs.PlanSteps.{PlanStep, Erode, Dilate, ErodeBox, DilateBox, Rank, Minus, AtLeast, Invert, Meet, Join, Blank, Mark, MarkLast, Equal, Sum}
use Rattle.mw_model.specs.Plans.{Plan, Source, FromInput, FromStep, IsSourceAt, no_picture, plane_of_source, planes}
use Rattle.mw_model.specs.Tasks.{nothing_planned}
use Rattle.mw_core_laws.specs.mw_plan.PlansOf.{CanBeMade, KindsAllow, planes_read}
use Rattle.mw_core_laws.specs.mw_core_planes.Levels.{Level, no_level, level_of, level_of_source, levels}
use Rattle.mw_core_laws.proofs.Leveled.{get_or-map-level_of, levels-planes}
use Rattle.mw_core_tasks.specs.Planning.{IsAllowed, LevelsAllow, level_at, levels_read}

-- ---- one step

kind-at : (fs : List Picture) (k : ℕ) → (level_at (map level_of fs) k).kind ≡ (get_or fs k no_picture).kind
kind-at fs k = ap (λ (l : Level). l.kind) (get_or-map-level_of fs k)

maxval-at : (fs : List Picture) (k : ℕ) → (level_at (map level_of fs) k).maxval ≡ (get_or fs k no_picture).maxval
maxval-at fs k = ap (λ (l : Level). l.maxval) (get_or-map-level_of fs k)

alike-levels : (fs : List Picture) → ((get_or fs 0 no_picture).kind ≡ (get_or fs 1 no_picture).kind) × ((get_or fs 0 no_picture).maxval ≡ (get_or fs 1 no_picture).maxval)
    → ((level_at (map level_of fs) 0).kind ≡ (level_at (map level_of fs) 1).kind) × ((level_at (map level_of fs) 0).maxval ≡ (level_at (map level_of fs) 1).maxval)
alike-levels fs h = (kind-at fs 0 ∙ h.0 ∙ sym (kind-at fs 1), maxval-at fs 0 ∙ h.1 ∙ sym (maxval-at fs 1))

levels-alike : (fs : List Picture) → ((level_at (map level_of fs) 0).kind ≡ (level_at (map level_of fs) 1).kind) × ((level_at (map level_of fs) 0).maxval ≡ (level_at (map level_of fs) 1).maxval)
    → ((get_or fs 0 no_picture).kind ≡ (get_or fs 1 no_picture).kind) × ((get_or fs 0 no_picture).maxval ≡ (get_or fs 1 no_picture).maxval)
levels-alike fs h = (sym (kind-at fs 0) ∙ h.0 ∙ kind-at fs 1, sym (maxval-at fs 0) ∙ h.1 ∙ maxval-at fs 1)

levels-allow : (s : PlanStep) (fs : List Picture) → KindsAllow s fs → LevelsAllow s (map level_of fs)
levels-allow (Erode e) fs h = tt
levels-allow (Dilate e) fs h = tt
levels-allow (ErodeBox b) fs h = tt
levels-allow (DilateBox b) fs h = tt
levels-allow (Rank e k) fs h = tt
levels-allow Minus fs h = alike-levels fs h
levels-allow (AtLeast k) fs h = tt
levels-allow Invert fs h = tt
levels-allow Meet fs h = alike-levels fs h
levels-allow Join fs h = alike-levels fs h
levels-allow (Blank m) fs h = h
levels-allow (Mark v) fs h = (subst (λ (n : ℕ). v ≤ n) (sym (maxval-at fs 0)) h.0, kind-at fs 1 ∙ h.1, kind-at fs 2 ∙ h.2)
levels-allow (MarkLast v) fs h = (subst (λ (n : ℕ). v ≤ n) (sym (maxval-at fs 0)) h.0, kind-at fs 1 ∙ h.1)
levels-allow (Equal v) fs h = tt
levels-allow Sum fs h = tt

kinds-allow : (s : PlanStep) (fs : List Picture) → LevelsAllow s (map level_of fs) → KindsAllow s fs
kinds-allow (Erode e) fs h = tt
kinds-allow (Dilate e) fs h = tt
kinds-allow (ErodeBox b) fs h = tt
kinds-allow (DilateBox b) fs h = tt
kinds-allow (Rank e k) fs h = tt
kinds-allow Minus fs h = levels-alike fs h
kinds-allow (AtLeast k) fs h = tt
kinds-allow Invert fs h = tt
kinds-allow Meet fs h = levels-alike fs h
kinds-allow Join fs h = levels-alike fs h
kinds-allow (Blank m) fs h = h
kinds-allow (Mark v) fs h = (subst (λ (n : ℕ). v ≤ n) (maxval-at fs 0) h.0, sym (kind-at fs 1) ∙ h.1, sym (kind-at fs 2) ∙ h.2)
kinds-allow (MarkLast v) fs h = (subst (λ (n : ℕ). v ≤ n) (maxval-at fs 0) h.0, sym (kind-at fs 1) ∙ h.1)
kinds-allow (Equal v) fs h = tt
kinds-allow Sum fs h = tt

-- ---- plans

-- the levels that are read are those of the planes that are read
read-levels : (f : Picture) (made : List Picture) (ls : List Level) (k : ℕ) (ss : List Source) → ls ≡ map level_of made → AllByRecursion (IsSourceAt 1 k) ss
    → map level_of (map (plane_of_source (f ∷ []) made) ss) ≡ map (level_of_source (level_of f) ls) ss
read-levels f made ls k [] same all = refl
read-levels f made ls k (FromInput zero ∷ ss) same all = ap (λ (xs : List Level). level_of f ∷ xs) (read-levels f made ls k ss same all.1)
read-levels f made ls k (FromInput (suc i) ∷ ss) same all = absurd (omega (arith, all.0))
read-levels f made ls k (FromStep j ∷ ss) same all =
    ap (λ (l : Level). l ∷ map level_of (map (plane_of_source (f ∷ []) made) ss)) (sym (get_or-map-level_of made j) ∙ ap (λ (xs : List Level). get_or xs j no_level) (sym same))
    ∙ ap (λ (xs : List Level). get_or ls j no_level ∷ xs) (read-levels f made ls k ss same all.1)

pub planes-levels : (plan : Plan) (f : Picture) (w h k : ℕ) → ((j : ℕ) → AllByRecursion (IsSourceAt 1 j) (get_or plan j nothing_planned).sources)
    → map level_of (planes_read plan (f ∷ []) w h k) ≡ levels_read plan (level_of f) k
planes-levels plan f w h k sources =
    read-levels f (planes plan (f ∷ []) w h) (levels plan (level_of f)) k (get_or plan k nothing_planned).sources (levels-planes plan f w h sources) (sources k)

-- what can be made of an image can be made of its level
pub allowed-made : (plan : Plan) (f : Picture) (w h : ℕ) → ((j : ℕ) → AllByRecursion (IsSourceAt 1 j) (get_or plan j nothing_planned).sources)
    → ((k : ℕ) → k < length plan → CanBeMade (get_or plan k nothing_planned).step (planes_read plan (f ∷ []) w h k)) → IsAllowed plan (level_of f)
allowed-made plan f w h sources made = record {
  counts = λ k within. sym (length-map (get_or plan k nothing_planned).sources (plane_of_source (f ∷ []) (planes plan (f ∷ []) w h))) ∙ (made k within).count;
  kinds = λ k within. subst (LevelsAllow (get_or plan k nothing_planned).step) (planes-levels plan f w h k sources) (levels-allow (get_or plan k nothing_planned).step (planes_read plan (f ∷ []) w h k) (made k within).kinds);
}

-- and the other way round
pub made-allowed : (plan : Plan) (f : Picture) (w h k : ℕ) → ((j : ℕ) → AllByRecursion (IsSourceAt 1 j) (get_or plan j nothing_planned).sources)
    → IsAllowed plan (level_of f) → k < length plan → CanBeMade (get_or plan k nothing_planned).step (planes_read plan (f ∷ []) w h k)
made-allowed plan f w h k sources allowed within = record {
  count = length-map (get_or plan k nothing_planned).sources (plane_of_source (f ∷ []) (planes plan (f ∷ []) w h)) ∙ allowed.counts k within;
  kinds = kinds-allow (get_or plan k nothing_planned).step (planes_read plan (f ∷ []) w h k) (subst (LevelsAllow (get_or plan k nothing_planned).step) (sym (planes-levels plan f w h k sources)) (allowed.kinds k within));
}
