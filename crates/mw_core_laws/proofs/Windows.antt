-- The windows that a task reads are those of the true planes, and fit its step.
use Rattle.std.proofs.Common.{◌≡◌, ℕ, zero, suc, ◌<◌, ◌≤◌, List, [], ◌∷◌, length, map, get_or, refl, sym, ap, ◌∙◌, subst, arith}
use Rattle.std.specs.List.{AllByRecursion}
use Rattle.mw_model.proofs.mw_facts.Alls.{all-both}
use Rattle.mw_model.specs.declared.offsets.Rect.{Rect}
use Rattle.mw_model.specs.Pictures.{Picture}
use Rattle.mw_model.specs.Plans.{Planned, Source, FromInput, FromStep, IsSourceAt, images_of, no_picture}
use Rattle.mw_model.specs.Tasks.{place_read, nothing_planned, task_count, planned_of, place_of_task, sources_of, step_number, tile_number, tile_of_task}
use Rattle.mw_model.specs.Machine.{Machine}
use Rattle.mw_model.specs.Stands.{input_values, true_planes}
use Rattle.mw_grid.specs.Grids.{tile_at, tile_count}
use Rattle.mw_grid.proofs.Tiles.{tile_begins}
use Rattle.mw_core_progress.specs.mw_tile.Windows.{SourceWindow, window_of}
use Rattle.mw_core_progress.specs.mw_step_task.Sources.{AreCut, HasFrame}
use Rattle.mw_core_progress.specs.mw_step_task.WindowTasks.{FitsStep, window_at}
use Rattle.mw_core_progress.proofs.mw_plan.WindowsFit.{made_fits}
use Rattle.mw_core_progress.specs.mw_core_planes.Levels.{Level, level_of}
use Rattle.mw_core_progress.specs.ProgressView.{ProgressView, number_of, IsWhole, IsPlaneSource}
use Rattle.mw_core_laws.specs.Works.{AreWindowsOfSources, IsWindowOfSource, IsTrueWork, task_of, true_source, true_task}
use Rattle.mw_core_laws.proofs.Numbers.{has-tiles, length-tiles, some-whole, step_number-within, tile_number-within, tile_of_task-whole, tile_of_task-within, planned_of-number_of, step_number-number_of, tile_number-number_of, tile_of_task-number_of}
use Rattle.mw_core_laws.proofs.Truth.{plane-true, true_plane-is}

-- the level of a window
abbrev pub level_of_window : SourceWindow → Level
level_of_window w = record { kind = w.kind; maxval = w.maxval }

-- ---- what is known of what the sources of a task are

-- a source of step k of this work
abbrev pub IsSourceOf : ProgressView → ℕ → Source → Type 0
IsSourceOf u k s = IsSourceAt 1 k s × IsPlaneSource u.progress.plan s

pub sources-at : (u : ProgressView) (k : ℕ) → IsWhole u → AllByRecursion (IsSourceOf u k) (get_or u.progress.plan k nothing_planned).sources
sources-at u k whole =
    all-both (IsSourceAt 1 k) (IsPlaneSource u.progress.plan) (IsSourceOf u k) (get_or u.progress.plan k nothing_planned).sources (λ s a b. (a, b)) (whole.workable.sources k) (whole.workable.planes k)

-- ---- windows of sources are those of the true planes

window-true : (m : Machine) (t : ℕ) (u : ProgressView) (place : Rect) (k : ℕ) (s : Source) (v : SourceWindow) → (w : IsTrueWork m t u) → k < length u.progress.plan → IsSourceOf u k s
    → IsWindowOfSource u w.planned.image place s v → v ≡ window_of place (true_source m t u.progress s)
window-true m t u place k (FromInput i) v w within source is =
    let first : i ≡ 0 = omega (arith, source.0) in
    let f = w.planned.image in
    is ∙ ap (window_of place) (ap (λ (j : ℕ). get_or (f ∷ []) j no_picture) (sym first) ∙ ap (λ (fs : List Picture). get_or fs i no_picture) (sym w.planned.images))
window-true m t u place k (FromStep i) v w within source is =
    is (get_or (true_planes m t u.progress) i no_picture) (plane-true m t u i w (omega (arith, source.0)) source.1)

windows-true : (m : Machine) (t : ℕ) (u : ProgressView) (place : Rect) (k : ℕ) (sources : List Source) (ws : List SourceWindow) → (w : IsTrueWork m t u) → k < length u.progress.plan
    → AllByRecursion (IsSourceOf u k) sources → AreWindowsOfSources u w.planned.image place sources ws → ws ≡ map (window_of place) (map (true_source m t u.progress) sources)
windows-true m t u place k [] [] w within all is = refl
windows-true m t u place k [] (v ∷ ws) w within all is = absurd is
windows-true m t u place k (s ∷ ss) [] w within all is = absurd is
windows-true m t u place k (s ∷ ss) (v ∷ ws) w within all is =
    ap (λ (x : SourceWindow). x ∷ ws) (window-true m t u place k s v w within all.0 is.0)
    ∙ ap (λ (vs : List SourceWindow). window_of place (true_source m t u.progress s) ∷ vs) (windows-true m t u place k ss ws w within all.1 is.1)

-- ---- tasks by their step and tile

pub place_of_task-number_of : (u : ProgressView) (step tile : ℕ) → IsWhole u → tile < tile_count u.tiling
    → place_of_task u.progress (number_of u.progress step tile) ≡ place_read (get_or u.progress.plan step nothing_planned).step u.tiling.width u.tiling.height (tile_at u.tiling tile)
place_of_task-number_of u step tile whole inside =
    let p = u.progress in
    let n = number_of p step tile in
    let s = get_or p.plan step nothing_planned in
    ap (λ (q : Planned). place_read q.step p.width p.height (tile_of_task p n)) (planned_of-number_of p step tile (omega (arith, inside, length-tiles u whole)))
    ∙ ap (λ (w : ℕ). place_read s.step w p.height (tile_of_task p n)) whole.width
    ∙ ap (λ (h : ℕ). place_read s.step u.tiling.width h (tile_of_task p n)) whole.height
    ∙ ap (place_read s.step u.tiling.width u.tiling.height) (tile_of_task-number_of u step tile whole inside)

pub task_of-number_of : (t : ℕ) (u : ProgressView) (step tile : ℕ) (ws : List SourceWindow) → IsWhole u → tile < tile_count u.tiling
    → task_of t u.progress (number_of u.progress step tile) ws
    ≡ record { task = record { ticket = t; step = step; tile = tile }; rect = tile_at u.tiling tile; step = (get_or u.progress.plan step nothing_planned).step; windows = ws }
task_of-number_of t u step tile ws whole inside =
    let p = u.progress in
    let counted : tile < length p.tiles = omega (arith, inside, length-tiles u whole) in
    let at_step = step_number-number_of p step tile counted in
    let at_tile = tile_number-number_of p step tile counted in
    let rect = tile_of_task-number_of u step tile whole inside in
    let planned = planned_of-number_of p step tile counted in
    λ i. record { task = record { ticket = t; step = at_step i; tile = at_tile i }; rect = rect i; step = (planned i).step; windows = ws }

-- ---- tasks on true windows

-- a task whose windows are those of its sources is the true one
pub task-true : (m : Machine) (t : ℕ) (u : ProgressView) (n : ℕ) (ws : List SourceWindow) → (w : IsTrueWork m t u) → n < task_count u.progress
    → AreWindowsOfSources u w.planned.image (place_of_task u.progress n) (planned_of u.progress n).sources ws → task_of t u.progress n ws ≡ true_task m t u.progress n
task-true m t u n ws w within is =
    let p = u.progress in
    let whole = w.whole in
    ap (task_of t p n) (windows-true m t u (place_of_task p n) (step_number p n) (planned_of p n).sources ws w (step_number-within p n (some-whole u whole) within) (sources-at u (step_number p n) whole) is)

-- ---- true tasks fit their steps

-- the level of a window is that of its image
pub level-window : (place : Rect) (fs : List Picture) (k : ℕ) → level_of_window (window_at (map (window_of place) fs) k) ≡ level_of (get_or fs k no_picture)
level-window place [] k = refl
level-window place (f ∷ fs) zero = refl
level-window place (f ∷ fs) (suc k) = level-window place fs k

-- the frame of a source
frame-of : (m : Machine) (t : ℕ) (u : ProgressView) (k : ℕ) (s : Source) → IsTrueWork m t u → k < length u.progress.plan → IsSourceOf u k s
    → HasFrame u.progress.width u.progress.height (true_source m t u.progress s)
frame-of m t u k (FromInput i) w within source =
    let p = u.progress in
    let f = w.planned.image in
    let first : i ≡ 0 = omega (arith, source.0) in
    let Frames : List Picture → Type 0 = λ fs. AllByRecursion (λ (g : Picture). (g.width ≡ p.width) × (g.height ≡ p.height)) fs in
    let sides = (subst Frames w.planned.images w.keeps.frames).0 in
    let is : f ≡ true_source m t p (FromInput i) = ap (λ (j : ℕ). get_or (f ∷ []) j no_picture) (sym first) ∙ ap (λ (fs : List Picture). get_or fs i no_picture) (sym w.planned.images) in
    subst (HasFrame p.width p.height) is (record { width = sides.0; height = sides.1 })
frame-of m t u k (FromStep i) w within source =
    let p = u.progress in
    subst (HasFrame p.width p.height) (sym (true_plane-is m t p i w.keeps (omega (arith, source.0)))) (record { width = refl; height = refl })

pub frames-of : (m : Machine) (t : ℕ) (u : ProgressView) (k : ℕ) (sources : List Source) → IsTrueWork m t u → k < length u.progress.plan → AllByRecursion (IsSourceOf u k) sources
    → AllByRecursion (HasFrame u.progress.width u.progress.height) (map (true_source m t u.progress) sources)
frames-of m t u k [] w within all = tt
frames-of m t u k (s ∷ ss) w within all = (frame-of m t u k s w within all.0, frames-of m t u k ss w within all.1)

-- the windows of a true task were cut from the true planes of its sources
pub true_task-cut : (m : Machine) (t : ℕ) (u : ProgressView) (n : ℕ) → IsTrueWork m t u → n < task_count u.progress
    → AreCut (planned_of u.progress n).step (sources_of u.progress (images_of (input_values m t)) (true_planes m t u.progress) n) u.progress.width u.progress.height (tile_of_task u.progress n) (true_task m t u.progress n).windows
true_task-cut m t u n w within =
    let p = u.progress in
    let whole = w.whole in
    let inside = tile_of_task-within u n whole in
    let across = inside.across in
    let down = inside.down in
    let wide = whole.width in
    let high = whole.height in
    record {
      frames = frames-of m t u (step_number p n) (planned_of p n).sources w (step_number-within p n (some-whole u whole) within) (sources-at u (step_number p n) whole);
      within = record { across = omega arith; down = omega arith };
      cut = refl;
    }

-- a tile has places
tile-some : (u : ProgressView) (n : ℕ) → IsWhole u → (1 ≤ (tile_of_task u.progress n).width) × (1 ≤ (tile_of_task u.progress n).height)
tile-some u n whole =
    let g = u.tiling in
    let i = tile_number u.progress n in
    let inside : i < tile_count g = omega (arith, tile_number-within u.progress n (some-whole u whole), length-tiles u whole) in
    let has = has-tiles g whole.tiling in
    let begins = tile_begins g i has inside in
    let some = has.some in
    let P : Rect → Type 0 = λ r. (1 ≤ r.width) × (1 ≤ r.height) in
    subst P (sym (tile_of_task-whole u n whole)) (omega (arith, begins.0), omega (arith, begins.1))

pub true_task-fits : (m : Machine) (t : ℕ) (u : ProgressView) (n : ℕ) → IsTrueWork m t u → n < task_count u.progress
    → FitsStep (true_task m t u.progress n).step (true_task m t u.progress n).rect (true_task m t u.progress n).windows
true_task-fits m t u n w within =
    let p = u.progress in
    let whole = w.whole in
    let cut = true_task-cut m t u n w within in
    let some = tile-some u n whole in
    let wide = whole.width in
    let high = whole.height in
    let narrow = whole.tiling.narrow in
    let low = whole.tiling.low in
    made_fits (planned_of p n).step (sources_of p (images_of (input_values m t)) (true_planes m t p) n) p.width p.height (tile_of_task p n) (true_task m t p n).windows cut (omega arith) (omega arith) some.0 some.1
    (w.planned.made (step_number p n) (step_number-within p n (some-whole u whole) within))
