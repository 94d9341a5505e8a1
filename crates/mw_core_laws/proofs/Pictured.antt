-- The true planes that steps read are pictures: no sample is over the maxval.
use Rattle.std.proofs.Common.{◌≡◌, ℕ, ◌+◌, ◌<◌, ◌≤◌, false, List, [], ◌∷◌, length, map, get_or, refl, sym, ap, ◌∙◌, subst, arith, zero-add}
use Rattle.std.specs.Prelude.{All}
use Rattle.std.specs.List.{AllByRecursion}
use Rattle.mw_model.proofs.mw_facts.Numbers.{strong_induction}
use Rattle.mw_model.specs.Rectangles.{rect}
use Rattle.mw_model.specs.Pictures.{Picture, IsPicture}
use Rattle.mw_model.specs.PlanSteps.{PlanStep, step_at, kind_of_step, maxval_of_step}
use Rattle.mw_model.specs.Plans.{Source, FromInput, FromStep, is_sum, no_picture, plane_of, sight_of}
use Rattle.mw_model.specs.Tasks.{cells_in, made_of_planes, nothing_planned, place_read, planned_of, step_number, task_count, tile_of_task}
use Rattle.mw_model.specs.Machine.{Machine}
use Rattle.mw_model.specs.Stands.{true_planes}
use Rattle.mw_model.proofs.ImagePlaces.{drawn_same, length-rows}
use Rattle.mw_core_progress.specs.mw_tile.Windows.{window_of}
use Rattle.mw_core_progress.specs.mw_step_task.Sources.{AreCut, HasFrame}
use Rattle.mw_core_progress.specs.mw_step_task.WindowTasks.{IsBounded, WindowTask, tile_made}
use Rattle.mw_core_progress.proofs.mw_step_task.Bounded.{made_below}
use Rattle.mw_core_progress.proofs.mw_step_task.Cut.{bounded_cut, made_of_cut}
use Rattle.mw_core_progress.specs.mw_plan.PlansOf.{CanBeMade}
use Rattle.mw_core_progress.proofs.mw_plan.WindowsFit.{made_fits}
use Rattle.mw_core_progress.specs.mw_core_planes.Levels.{Level}
use Rattle.mw_core_progress.specs.ProgressView.{ProgressView}
use Rattle.mw_core_laws.specs.Works.{IsTrueWork, true_source, true_sources, true_task}
use Rattle.mw_core_laws.proofs.Numbers.{some-whole, step_number-within}
use Rattle.mw_core_laws.proofs.Truth.{true_plane-is}
use Rattle.mw_core_laws.proofs.Windows.{IsSourceOf, frames-of, level-window, sources-at, true_task-cut}

-- ---- what a step makes of pictures

-- a frame that is within the limits of an image
record HasSides (width height : ℕ) : Type 0 where
  pub wide : 1 ≤ width
  pub narrow : width ≤ 8192
  pub high : 1 ≤ height
  pub low : height ≤ 8192

whole-made : (s : PlanStep) (sources : List Picture) (width height : ℕ) → is_sum s ≡ false → made_of_planes s sources (rect 0 0 width height) ≡ (plane_of s sources width height).samples
whole-made s sources width height no_sum =
    let first = get_or sources 0 no_picture in
    let value : ℕ → ℕ → ℕ = step_at s first.maxval (sight_of sources 0) (sight_of sources 1) (sight_of sources 2) in
    let cells : made_of_planes s sources (rect 0 0 width height) ≡ cells_in (rect 0 0 width height) value = rw no_sum refl in
    cells
    ∙ ap (λ (f : Picture). f.samples)
    (drawn_same (kind_of_step s first.kind) width height (maxval_of_step s first.maxval) (λ x y. value (0 + x) (0 + y)) value (λ x y p q. rw (zero-add x, zero-add y) refl))

plane-picture : (s : PlanStep) (sources : List Picture) (width height : ℕ) → HasSides width height → AllByRecursion (HasFrame width height) sources → AllByRecursion IsPicture sources → CanBeMade s sources → is_sum s ≡ false
    → IsPicture (plane_of s sources width height)
plane-picture s sources width height sides frames pictures can no_sum =
    let tile = rect 0 0 width height in
    let place = place_read s width height tile in
    let ws = map (window_of place) sources in
    let first = get_or sources 0 no_picture in
    let d : WindowTask = record { task = record { ticket = 0; step = 0; tile = 0 }; rect = tile; step = s; windows = ws } in
    let cut : AreCut s sources width height tile ws = record { frames = frames; within = record { across = omega arith; down = omega arith }; cut = refl } in
    let fits = made_fits s sources width height tile ws cut sides.narrow sides.low sides.wide sides.high can in
    let below = made_below d fits.kinds (bounded_cut s sources width height tile ws cut pictures) no_sum in
    let samples : (tile_made d).samples ≡ (plane_of s sources width height).samples = made_of_cut s sources width height tile ws cut ∙ whole-made s sources width height no_sum in
    let top : (tile_made d).maxval ≡ (plane_of s sources width height).maxval = ap (λ (l : Level). maxval_of_step s l.maxval) (level-window place sources 0) in
    let bounded = subst (λ (ns : List ℕ). All (λ n. n ≤ (tile_made d).maxval) ns) samples below in
    let value : ℕ → ℕ → ℕ = step_at s first.maxval (sight_of sources 0) (sight_of sources 1) (sight_of sources 2) in
    record {
      size = length-rows value width 0 height;
      bounded = subst (λ (m : ℕ). All (λ n. n ≤ m) (plane_of s sources width height).samples) top bounded;
    }

-- ---- the sources of the steps of work

sides-of : (m : Machine) (t : ℕ) (u : ProgressView) → IsTrueWork m t u → HasSides u.progress.width u.progress.height
sides-of m t u w =
    let a = w.whole.width in
    let b = w.whole.height in
    let is = w.whole.tiling in
    let wide = is.wide in
    let narrow = is.narrow in
    let high = is.high in
    let low = is.low in
    record { wide = omega arith; narrow = omega arith; high = omega arith; low = omega arith }

pictures-before : (m : Machine) (t : ℕ) (u : ProgressView) (k : ℕ) (sources : List Source) → IsTrueWork m t u → k < length u.progress.plan
    → ((j : ℕ) → j < k → is_sum (get_or u.progress.plan j nothing_planned).step ≡ false → IsPicture (get_or (true_planes m t u.progress) j no_picture)) → AllByRecursion (IsSourceOf u k) sources
    → AllByRecursion IsPicture (map (true_source m t u.progress) sources)
pictures-before m t u k [] w within before all = tt
pictures-before m t u k (FromInput i ∷ ss) w within before all =
    let f = w.planned.image in
    let first : i ≡ 0 = omega (arith, all.0.0) in
    let is : f ≡ true_source m t u.progress (FromInput i) = ap (λ (j : ℕ). get_or (f ∷ []) j no_picture) (sym first) ∙ ap (λ (fs : List Picture). get_or fs i no_picture) (sym w.planned.images) in
    (subst IsPicture is w.planned.limits.picture, pictures-before m t u k ss w within before all.1)
pictures-before m t u k (FromStep j ∷ ss) w within before all = (before j all.0.0 all.0.1, pictures-before m t u k ss w within before all.1)

-- the true plane of a step that makes one is a picture
pub true_plane-picture : (m : Machine) (t : ℕ) (u : ProgressView) (k : ℕ) → IsTrueWork m t u → k < length u.progress.plan → is_sum (get_or u.progress.plan k nothing_planned).step ≡ false
    → IsPicture (get_or (true_planes m t u.progress) k no_picture)
true_plane-picture m t u k w =
    let p = u.progress in
    strong_induction (λ (j : ℕ). j < length p.plan → is_sum (get_or p.plan j nothing_planned).step ≡ false → IsPicture (get_or (true_planes m t p) j no_picture))
    (λ j before within no_sum.
    let s = get_or p.plan j nothing_planned in
    subst IsPicture (sym (true_plane-is m t p j w.keeps within))
    (plane-picture s.step (true_sources m t p j) p.width p.height (sides-of m t u w) (frames-of m t u j s.sources w within (sources-at u j w.whole))
    (pictures-before m t u j s.sources w within (λ i lt. before i lt (omega (arith, lt, within))) (sources-at u j w.whole)) (w.planned.made j within) no_sum)) k

-- and so is each plane that a step reads
pub true_sources-pictures : (m : Machine) (t : ℕ) (u : ProgressView) (k : ℕ) → IsTrueWork m t u → k < length u.progress.plan → AllByRecursion IsPicture (true_sources m t u.progress k)
true_sources-pictures m t u k w within =
    pictures-before m t u k (get_or u.progress.plan k nothing_planned).sources w within (λ j lt no_sum. true_plane-picture m t u j w (omega (arith, lt, within)) no_sum) (sources-at u k w.whole)

-- no sample of the windows of a true task is over the maxval
pub true_task-bounded : (m : Machine) (t : ℕ) (u : ProgressView) (n : ℕ) → IsTrueWork m t u → n < task_count u.progress → AllByRecursion IsBounded (true_task m t u.progress n).windows
true_task-bounded m t u n w within =
    let p = u.progress in
    let k = step_number p n in
    let before = step_number-within p n (some-whole u w.whole) within in
    bounded_cut (planned_of p n).step (true_sources m t p k) p.width p.height (tile_of_task p n) (true_task m t p n).windows (true_task-cut m t u n w within) (true_sources-pictures m t u k w before)
