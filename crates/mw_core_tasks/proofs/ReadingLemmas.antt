-- What a ready or running task reads is there.
use Rattle.std.proofs.Common.{◌≡◌, ℕ, ◌<◌, ◌≤◌, List, [], ◌∷◌, map, get_or, Option, Some, None, refl, sym, ap, ◌∙◌, subst, arith}
use Rattle.std.specs.Prelude.{IfOk, IfSome, IsSome, ◌↔◌, Result, Ok, Err, option_map}
use Rattle.std.specs.List.{AllByRecursion, Contains}
use Rattle.mw_model.proofs.mw_facts.Finds.{contains-cons}
use Rattle.mw_model.specs.declared.offsets.Reach.{Reach}
use Rattle.mw_model.specs.declared.offsets.Rect.{Rect}
use Rattle.mw_model.specs.Pictures.{IsPicture, Picture}
use Rattle.mw_model.specs.Rectangles.{grown, IsWithin}
use Rattle.mw_model.specs.Elements.{reach_of}
use Rattle.mw_model.specs.PlanSteps.{PlanStep, looks_at}
use Rattle.mw_model.specs.Plans.{Planned, Source, FromInput, FromStep}
use Rattle.mw_model.specs.Tasks.{nothing_planned, place_read, planned_of, place_of_task, task_count}
use Rattle.mw_grid.specs.Grids.{Tiling, tile_at, tile_count}
use Rattle.mw_grid.proofs.Tiles.{HasTiles, tile_begins, tile_within}
use Rattle.mw_core_laws.proofs.mw_step_task.Cut.{window_bounded_cut}
use Rattle.mw_core_laws.specs.mw_step_task.Sources.{HasFrame}
use Rattle.mw_core_laws.specs.mw_step_task.WindowTasks.{FitsStep, IsBounded, WindowTask}
use Rattle.mw_core_laws.specs.mw_tile.Windows.{SourceWindow, window_of}
use Rattle.mw_core_laws.specs.mw_core_progress.ProgressView.{ProgressView, IsWhole, number_of}
use Rattle.mw_core_laws.specs.Works.{IsReadyOrRuns}
use Rattle.mw_core_laws.proofs.Reading.{source-placed, source-plane, source-within}
use Rattle.mw_core_laws.proofs.Windows.{place_of_task-number_of, task_of-number_of}
use Rattle.mw_core_tasks.specs.SourceWindows.{AreSources, CanRead, CanReadAll, IsOfWork, IsTaskOrNone, task_on}

-- a rectangle in a frame that has a place still has one when it is grown
pub grown-some : (w h : ℕ) (r : Reach) (t : Rect) → IsWithin t w h → 1 ≤ t.width → 1 ≤ t.height → (1 ≤ (grown w h r t).width) × (1 ≤ (grown w h r t).height)
grown-some w h r t inside wide high =
    let across = inside.across in
    let down = inside.down in
    (omega (arith, across, wide), omega (arith, down, high))

can-read : (u : ProgressView) (place : Rect) (all ss : List Source) → ((s : Source) → Contains ss s → Contains all s) → ((k : ℕ) → Contains all (FromStep k) → CanRead u place (FromStep k)) → CanReadAll u place ss
can-read u place all [] within there = tt
can-read u place all (FromInput i ∷ ss) within there = (tt, can-read u place all ss (λ s has. within s (contains-cons (FromInput i) s ss has)) there)
can-read u place all (FromStep k ∷ ss) within there = (there k (within (FromStep k) (0, omega arith, refl)), can-read u place all ss (λ s has. within s (contains-cons (FromStep k) s ss has)) there)

-- the task reads what is there
pub task-can-read : (u : ProgressView) (n : ℕ) → IsWhole u → n < task_count u.progress → IsReadyOrRuns u.progress n → CanReadAll u (place_of_task u.progress n) (planned_of u.progress n).sources
task-can-read u n whole within runs =
    let ss = (planned_of u.progress n).sources in
    can-read u (place_of_task u.progress n) ss ss (λ s has. has) (λ k has. (source-within u n k whole within has, source-plane u n k whole has, source-placed u n k whole within runs has))

-- its sources are those of the work
pub read-of-work : (u : ProgressView) (place : Rect) (ss : List Source) → CanReadAll u place ss → AllByRecursion (IsOfWork u) ss
read-of-work u place [] reads = tt
read-of-work u place (FromInput i ∷ ss) reads = (tt, read-of-work u place ss reads.1)
read-of-work u place (FromStep k ∷ ss) reads = ((reads.0.0, reads.0.1), read-of-work u place ss reads.1)

-- the window of an image that is kept is bounded
bounded-some : (image : Option Picture) (place : Rect) (w h : ℕ) (o : Option SourceWindow) → IfSome image (HasFrame w h) → IfSome image IsPicture → IsWithin place w h → o ≡ option_map (window_of place) image → IfSome o IsBounded
bounded-some None place w h o frame picture within is =
    let Bounded : Option SourceWindow → Type 0 = λ x. IfSome x IsBounded in
    subst Bounded (sym is) tt
bounded-some (Some f) place w h o frame picture within is =
    let Bounded : Option SourceWindow → Type 0 = λ x. IfSome x IsBounded in
    let Wide : ℕ → Type 0 = λ x. IsWithin place x f.height in
    let High : ℕ → Type 0 = λ y. IsWithin place w y in
    subst Bounded (sym is) (window_bounded_cut f place picture (subst Wide (sym frame.width) (subst High (sym frame.height) within)))

pub window-bounded : {E : Type 0} (image : Option Picture) (place : Rect) (w h : ℕ) (r : Result (Option SourceWindow) E) → IfSome image (HasFrame w h) → IfSome image IsPicture → IsWithin place w h
    → IfOk r (λ o. o ≡ option_map (window_of place) image) → IfOk r (λ o. IfSome o IsBounded)
window-bounded image place w h (Ok o) frame picture within is = bounded-some image place w h o frame picture within is
window-bounded image place w h (Err e) frame picture within is = tt

-- ---- the parts of a task

-- the rectangle that is read, off the grid and the step
pub place-is : (u : ProgressView) (step tile : ℕ) (g : Tiling) (r : Reach) (q : Planned) (place : Rect) → IsWhole u → tile < tile_count u.tiling → g ≡ u.tiling → q ≡ get_or u.progress.plan step nothing_planned
    → r ≡ reach_of (looks_at q.step) → place ≡ grown g.width g.height r (tile_at g tile) → place ≡ place_of_task u.progress (number_of u.progress step tile)
place-is u step tile g r q place whole inside grid planned reach is =
    is ∙ ap (λ (x : Tiling). grown x.width x.height r (tile_at x tile)) grid ∙ ap (λ (x : Reach). grown u.tiling.width u.tiling.height x (tile_at u.tiling tile)) reach
    ∙ ap (λ (x : Planned). place_read x.step u.tiling.width u.tiling.height (tile_at u.tiling tile)) planned ∙ sym (place_of_task-number_of u step tile whole inside)

-- the task of these windows is that on these sources
pub task-is : (t : ℕ) (u : ProgressView) (step tile : ℕ) (g : Tiling) (r : Rect) (s : PlanStep) (q : Planned) (ws : List SourceWindow) (fs : List Picture) → IsWhole u → tile < tile_count u.tiling → g ≡ u.tiling
    → q ≡ get_or u.progress.plan step nothing_planned → s ≡ q.step → r ≡ tile_at g tile → ws ≡ map (window_of (place_of_task u.progress (number_of u.progress step tile))) fs
    → record { task = record { ticket = t; step = step; tile = tile }; rect = r; step = s; windows = ws } ≡ task_on t u (number_of u.progress step tile) fs
task-is t u step tile g r s q ws fs whole inside grid planned same rect windows =
    let at : r ≡ tile_at u.tiling tile = rect ∙ ap (λ (x : Tiling). tile_at x tile) grid in
    let of : s ≡ (get_or u.progress.plan step nothing_planned).step = same ∙ ap (λ (x : Planned). x.step) planned in
    (λ i. record { task = record { ticket = t; step = step; tile = tile }; rect = at i; step = of i; windows = windows i })
    ∙ sym (task_of-number_of t u step tile (map (window_of (place_of_task u.progress (number_of u.progress step tile))) fs) whole inside)

-- a task is made exactly of windows that fit
pub task-or-none : (image : Option Picture) (t : ℕ) (u : ProgressView) (n : ℕ) (w : Option WindowTask) (d : WindowTask) → IsSome w ↔ FitsStep d.step d.rect d.windows → IfSome w (λ x. x ≡ d) → d.task.ticket ≡ t
    → AllByRecursion IsBounded d.windows → ((fs : List Picture) → AreSources image u (planned_of u.progress n).sources fs → d ≡ task_on t u n fs) → IsTaskOrNone image t u n w
task-or-none image t u n None d fits value ticket bounded is = λ fs sources read.
    let P : WindowTask → Type 0 = λ x. FitsStep x.step x.rect x.windows in
    let no = fits.1 (subst P (sym (is fs sources)) read) in
    absurd cc
task-or-none image t u n (Some w) d fits value ticket bounded is =
    let Bounded : WindowTask → Type 0 = λ x. AllByRecursion IsBounded x.windows in
    (λ fs sources. value ∙ is fs sources, ap (λ (x : WindowTask). x.task.ticket) value ∙ ticket, subst Bounded (sym value) bounded)

-- the rectangle that is read has a place
pub place-some : (u : ProgressView) (tile : ℕ) (g : Tiling) (r : Reach) (place : Rect) → IsWhole u → tile < tile_count u.tiling → g ≡ u.tiling → place ≡ grown g.width g.height r (tile_at g tile)
    → (1 ≤ place.width) × (1 ≤ place.height)
place-some u tile g r place whole inside grid is =
    let h = u.tiling in
    let framed = whole.tiling in
    let has : HasTiles h = record { wide = framed.wide; high = framed.high; some = omega (arith, framed.least) } in
    let begins = tile_begins h tile has inside in
    let within = tile_within h tile has inside in
    let some = grown-some h.width h.height r (tile_at h tile) within (omega (arith, begins.0, framed.least)) (omega (arith, begins.1, framed.least)) in
    let P : Rect → Type 0 = λ q. (1 ≤ q.width) × (1 ≤ q.height) in
    subst P (sym (is ∙ ap (λ (x : Tiling). grown x.width x.height r (tile_at x tile)) grid)) some

pub some-items : {A : Type 0} {w : Option A} {x y : A} → w ≡ Some x → w ≡ Some y → x ≡ y
some-items e f = cc
