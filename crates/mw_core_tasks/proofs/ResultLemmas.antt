-- Results of running tasks: their windows, what they made, and that they are the true ones.
use Rattle.std.proofs.Common.{◌≡◌, ℕ, ◌<◌, true, not, inr, List, [], ◌∷◌, length, map, get_or, Option, Some, None, refl, sym, ap, ◌∙◌, subst, arith}
use Rattle.std.specs.Prelude.{IfSome, option_map}
use Rattle.std.specs.List.{AllByRecursion}
use Rattle.std.proofs.lemmas.Bool.{and_parts}
use Rattle.std.proofs.lemmas.Option.{none-some}
use Rattle.mw_model.specs.declared.calls.Outcome.TheVariants as outcome
use Rattle.mw_model.specs.declared.offsets.Reach.{Reach}
use Rattle.mw_model.specs.declared.offsets.Rect.{Rect}
use Rattle.mw_model.specs.declared.tasks.TaskId.{TaskId}
use Rattle.mw_model.specs.Elements.{reach_of}
use Rattle.mw_model.specs.Machine.{Machine}
use Rattle.mw_model.specs.Pictures.{Picture, IsPicture}
use Rattle.mw_model.specs.Rectangles.{IsWithin, grown}
use Rattle.mw_model.specs.PlanSteps.{PlanStep, kind_of_step, looks_at, maxval_of_step}
use Rattle.mw_model.specs.Plans.{Plan, Planned, Source, FromInput, FromStep, IsSourceAt, images_of, planes}
use Rattle.mw_model.specs.Refusals.{Table, outcome_at, submission_at}
use Rattle.mw_model.specs.Stands.{CoreView, StandsFor, inputs_there, input_values, progress_at, true_planes}
use Rattle.mw_model.specs.Tasks.{Progress, flag, is_running, nothing_planned, place_of_task, planned_of, sources_of, task_count}
use Rattle.mw_model.specs.Values.{image_of, value_at}
use Rattle.mw_grid.specs.Grids.{Tiling, tile_at, tile_count}
use Rattle.mw_core_laws.specs.mw_tile.Windows.{SourceWindow, window_of}
use Rattle.mw_core_laws.specs.mw_tile_planes.Tiles.{IsPlaneOf}
use Rattle.mw_core_laws.specs.mw_step_task.declared.tile_result.TileResult.{TileResult}
use Rattle.mw_core_laws.specs.mw_step_task.Products.{IsMade}
use Rattle.mw_core_laws.specs.mw_step_task.Sources.{HasFrame}
use Rattle.mw_core_laws.specs.mw_step_task.WindowTasks.{FitsStep, IsBounded, WindowTask, tile_made, window_at}
use Rattle.mw_core_laws.proofs.mw_step_task.Cut.{window_bounded_cut}
use Rattle.mw_core_laws.specs.mw_plan.PlansOf.{planes_read}
use Rattle.mw_core_laws.proofs.mw_plan.Planes.{plane_is}
use Rattle.mw_core_laws.specs.mw_core_planes.Levels.{Level, level_of, level_of_source, level_of_step, levels, no_level, level_of_plane}
use Rattle.mw_core_laws.specs.mw_core_progress.ProgressView.{IsWhole, ProgressView, ResultFits, number_of, plane_at}
use Rattle.mw_core_laws.specs.Works.{true_task}
use Rattle.mw_core_laws.proofs.Going.{true-under}
use Rattle.mw_core_laws.proofs.Leveled.{get_or-map-level_of, level_of-plane_of, levels-planes}
use Rattle.mw_core_laws.proofs.Making.{fits-made}
use Rattle.mw_core_laws.proofs.Numbers.{length-tiles, number_of-numbers, number_of-within, planned_of-number_of, some-whole, step_number-within, tile_number-within, tile_of_task-number_of}
use Rattle.mw_core_laws.proofs.Truth.{plane-true, plane_at-level}
use Rattle.mw_core_laws.specs.TaskEvents.{IsResult}
use Rattle.mw_core_laws.proofs.StandsLemmas.{stands-sound}
use Rattle.mw_core_laws.proofs.TaskLemmas.{work-of}
use Rattle.mw_core_tasks.specs.Planning.{IsPlannedAt, levels_read}
use Rattle.mw_core_tasks.specs.Results.{AreShown, HasLevel, IsFitOf, IsFoundOf, IsOfRunning, IsResultOf, WindowIsShown, level_of_window, result_number}
use Rattle.mw_core_tasks.specs.SourceWindows.{AreSources, CanReadAll, IsOfWork, IsSource, task_on}
use Rattle.mw_core_tasks.proofs.AllowedLemmas.{planes-levels}
use Rattle.mw_core_tasks.proofs.PlannedAtLemmas.{level-is, planned-at}
use Rattle.mw_core_tasks.proofs.ReadingLemmas.{place-is, read-of-work, task-can-read, task-is}
use Rattle.mw_core_tasks.proofs.SourceTrueLemmas.{ReadsKept, reads-kept, sources-true}

-- ---- the window of a source

pub input-shown : (image : Option Picture) (u : ProgressView) (place : Rect) (k : ℕ) (w : SourceWindow) → IfSome image (HasFrame u.tiling.width u.tiling.height) → HasLevel image u → IfSome image IsPicture
    → IsWithin place u.tiling.width u.tiling.height → option_map (window_of place) image ≡ Some w → WindowIsShown image u place (FromInput k) w
input-shown None u place k w frame level picture within is = absurd (none-some _ is)
input-shown (Some f) u place k w frame level picture within is =
    let same : window_of place f ≡ w = cc in
    let Wide : ℕ → Type 0 = λ x. IsWithin place x f.height in
    let High : ℕ → Type 0 = λ y. IsWithin place u.tiling.width y in
    record {
      window = λ g source. sym is ∙ ap (option_map (window_of place)) source.0;
      level = sym (ap level_of_window same) ∙ level;
      bounded = subst IsBounded same (window_bounded_cut f place picture (subst Wide (sym frame.width) (subst High (sym frame.height) within)));
    }

pub step-shown : (image : Option Picture) (u : ProgressView) (place : Rect) (k : ℕ) (w : SourceWindow) → IsWhole u → k < length u.progress.plan → ((f : Picture) → IsPlaneOf (plane_at u k) f → w ≡ window_of place f)
    → (w.kind ≡ (plane_at u k).kind) × (w.maxval ≡ (plane_at u k).maxval) → IsBounded w → WindowIsShown image u place (FromStep k) w
step-shown image u place k w whole within is level bounded =
    let same : level_of_window w ≡ level_of_plane (plane_at u k) = λ i. record { kind = level.0 i; maxval = level.1 i } in
    record {
      window = λ f plane. ap Some (is f plane);
      level = same ∙ plane_at-level u k whole within;
      bounded = bounded;
    }

-- ---- the windows of all sources

shown-windows : (image : Option Picture) (u : ProgressView) (place : Rect) (ss : List Source) (ws : List SourceWindow) (fs : List Picture) → AreShown image u place ss ws → AreSources image u ss fs → ws ≡ map (window_of place) fs
shown-windows image u place [] [] [] shown sources = refl
shown-windows image u place [] [] (f ∷ fs) shown sources = absurd sources
shown-windows image u place [] (w ∷ ws) fs shown sources = absurd shown
shown-windows image u place (s ∷ ss) [] fs shown sources = absurd shown
shown-windows image u place (s ∷ ss) (w ∷ ws) [] shown sources = absurd sources
shown-windows image u place (s ∷ ss) (w ∷ ws) (f ∷ fs) shown sources =
    let both : Some w ≡ Some (window_of place f) = shown.0.window f sources.0 in
    let first : w ≡ window_of place f = cc in
    let rest = shown-windows image u place ss ws fs shown.1 sources.1 in
    λ i. first i ∷ rest i

shown-levels : (image : Option Picture) (u : ProgressView) (place : Rect) (ss : List Source) (ws : List SourceWindow) → AreShown image u place ss ws → map level_of_window ws ≡ map (level_of_source u.input (levels u.progress.plan u.input)) ss
shown-levels image u place [] [] shown = refl
shown-levels image u place [] (w ∷ ws) shown = absurd shown
shown-levels image u place (s ∷ ss) [] shown = absurd shown
shown-levels image u place (s ∷ ss) (w ∷ ws) shown =
    let first = shown.0.level in
    let rest = shown-levels image u place ss ws shown.1 in
    λ i. first i ∷ rest i

shown-bounded : (image : Option Picture) (u : ProgressView) (place : Rect) (ss : List Source) (ws : List SourceWindow) → AreShown image u place ss ws → AllByRecursion IsBounded ws
shown-bounded image u place [] [] shown = tt
shown-bounded image u place [] (w ∷ ws) shown = absurd shown
shown-bounded image u place (s ∷ ss) [] shown = absurd shown
shown-bounded image u place (s ∷ ss) (w ∷ ws) shown = (shown.0.bounded, shown-bounded image u place ss ws shown.1)

-- ---- a result, part by part

counted-in : (u : ProgressView) (d : WindowTask) → IsWhole u → d.task.tile < tile_count u.tiling → d.task.tile < length u.progress.tiles
counted-in u d whole inside = omega (arith, inside, length-tiles u whole)

-- the step that a result names
planned-is : (u : ProgressView) (d : WindowTask) → IsWhole u → d.task.tile < tile_count u.tiling → planned_of u.progress (result_number u d) ≡ get_or u.progress.plan d.task.step nothing_planned
planned-is u d whole inside = planned_of-number_of u.progress d.task.step d.task.tile (counted-in u d whole inside)

-- a result bears the numbers of a running task, by what was asked of the work
pub of-running : (u : ProgressView) (d : WindowTask) (id : TaskId) (g : Tiling) (q : Planned) (r : Rect) → id ≡ d.task → IsWhole u → g ≡ u.tiling → q ≡ get_or u.progress.plan id.step nothing_planned → r ≡ tile_at g id.tile
    → (id.step < length u.progress.plan) × (id.tile < tile_count u.tiling) × (is_running u.progress (number_of u.progress id.step id.tile) ≡ true) → d.rect ≡ r → d.step ≡ q.step → IsOfRunning u d
of-running u d id g q r same whole grid planned at runs rect step =
    let Planned-as : TaskId → Type 0 = λ k. q ≡ get_or u.progress.plan k.step nothing_planned in
    let At : TaskId → Type 0 = λ k. r ≡ tile_at g k.tile in
    let Runs : TaskId → Type 0 = λ k. (k.step < length u.progress.plan) × (k.tile < tile_count u.tiling) × (is_running u.progress (number_of u.progress k.step k.tile) ≡ true) in
    let own = subst Runs same runs in
    record {
      within = own.0;
      inside = own.1;
      running = own.2;
      step = step ∙ ap (λ (x : Planned). x.step) (subst Planned-as same planned ∙ sym (planned-is u d whole own.1));
      rect = rect ∙ subst At same at ∙ ap (λ (x : Tiling). tile_at x d.task.tile) grid ∙ sym (tile_of_task-number_of u d.task.step d.task.tile whole own.1);
    }

-- and what was asked of the work is what such a result bears
pub running-of : (u : ProgressView) (d : WindowTask) (id : TaskId) → id ≡ d.task → IsOfRunning u d
    → (id.step < length u.progress.plan) × (id.tile < tile_count u.tiling) × (is_running u.progress (number_of u.progress id.step id.tile) ≡ true)
running-of u d id same of =
    let Runs : TaskId → Type 0 = λ k. (k.step < length u.progress.plan) × (k.tile < tile_count u.tiling) × (is_running u.progress (number_of u.progress k.step k.tile) ≡ true) in
    subst Runs (sym same) (of.within, of.inside, of.running)

pub rect-of : (u : ProgressView) (d : WindowTask) (id : TaskId) (g : Tiling) (r : Rect) → id ≡ d.task → IsWhole u → g ≡ u.tiling → r ≡ tile_at g id.tile → IsOfRunning u d → d.rect ≡ r
rect-of u d id g r same whole grid at of =
    let At : TaskId → Type 0 = λ k. r ≡ tile_at g k.tile in
    of.rect ∙ tile_of_task-number_of u d.task.step d.task.tile whole of.inside ∙ ap (λ (x : Tiling). tile_at x d.task.tile) (sym grid) ∙ sym (subst At same at)

pub step-of : (u : ProgressView) (d : WindowTask) (id : TaskId) (q : Planned) → id ≡ d.task → IsWhole u → q ≡ get_or u.progress.plan id.step nothing_planned → IsOfRunning u d → d.step ≡ q.step
step-of u d id q same whole planned of =
    let Planned-as : TaskId → Type 0 = λ k. q ≡ get_or u.progress.plan k.step nothing_planned in
    of.step ∙ ap (λ (x : Planned). x.step) (planned-is u d whole of.inside ∙ sym (subst Planned-as same planned))

-- what is looked up of the work for a result: its step, and the rectangle that it reads
pub record IsLookedUp (u : ProgressView) (d : WindowTask) (q : Planned) (place : Rect) : Type 0 where
  pub whole : IsWhole u
  pub planned : q ≡ get_or u.progress.plan d.task.step nothing_planned
  pub reads : place ≡ place_of_task u.progress (result_number u d)
  pub of : IsOfRunning u d

-- the same of what was asked of the work, by the numbers that the result bears
pub looked-up : (u : ProgressView) (d : WindowTask) (id : TaskId) (g : Tiling) (r : Reach) (q : Planned) (place : Rect) → id ≡ d.task → IsWhole u → g ≡ u.tiling → q ≡ get_or u.progress.plan id.step nothing_planned
    → r ≡ reach_of (looks_at q.step) → place ≡ grown g.width g.height r (tile_at g id.tile) → IsOfRunning u d → IsLookedUp u d q place
looked-up u d id g r q place same whole grid planned reach is of =
    let Planned-as : TaskId → Type 0 = λ k. q ≡ get_or u.progress.plan k.step nothing_planned in
    let Place-of : TaskId → Type 0 = λ k. place ≡ grown g.width g.height r (tile_at g k.tile) in
    let own = subst Planned-as same planned in
    record {
      whole = whole;
      planned = own;
      reads = place-is u d.task.step d.task.tile g r q place whole of.inside grid own reach (subst Place-of same is);
      of = of;
    }

first-of : (ls ks : List Level) → ls ≡ ks → get_or ls 0 no_level ≡ get_or ks 0 no_level
first-of ls ks e = ap (λ (xs : List Level). get_or xs 0 no_level) e

pub result-of : (image : Option Picture) (u : ProgressView) (d : WindowTask) (q : Planned) (place : Rect) → IsLookedUp u d q place → AreShown image u place q.sources d.windows → IsResultOf image u d
result-of image u d q place at shown =
    let n = result_number u d in
    let k = d.task.step in
    let of = at.of in
    let planned : planned_of u.progress n ≡ q = planned-is u d at.whole of.inside ∙ sym at.planned in
    let Of : List Picture → Planned → Type 0 = λ fs x. AreSources image u x.sources fs in
    let rect = of.rect ∙ tile_of_task-number_of u k d.task.tile at.whole of.inside in
    let step = of.step ∙ ap (λ (x : Planned). x.step) planned in
    record {
      fit = record {
        of = of;
        level = first-of _ _ (shown-levels image u place q.sources d.windows shown ∙ ap (λ (x : Planned). map (level_of_source u.input (levels u.progress.plan u.input)) x.sources) at.planned);
        bounded = shown-bounded image u place q.sources d.windows shown;
      };
      task = λ fs sources. task-is d.task.ticket u k d.task.tile u.tiling d.rect d.step q d.windows fs at.whole of.inside refl at.planned step rect
          (shown-windows image u place q.sources d.windows fs shown (subst (Of fs) planned sources) ∙ ap (λ (r : Rect). map (window_of r) fs) at.reads);
    }

-- a result that bears the numbers of a running task and begins with its level
pub fit-of : (u : ProgressView) (d : WindowTask) (q : Planned) → IsOfRunning u d → q ≡ get_or u.progress.plan d.task.step nothing_planned
    → get_or (map level_of_window d.windows) 0 no_level ≡ get_or (map (level_of_source u.input (levels u.progress.plan u.input)) q.sources) 0 no_level → AllByRecursion IsBounded d.windows → IsFitOf u d
fit-of u d q of planned level bounded =
    record { of = of; level = level ∙ ap (λ (x : Planned). get_or (map (level_of_source u.input (levels u.progress.plan u.input)) x.sources) 0 no_level) planned; bounded = bounded }

-- the step of such a result reads sources of the work
pub of-work : (u : ProgressView) (d : WindowTask) (q : Planned) → IsWhole u → IsOfRunning u d → q ≡ get_or u.progress.plan d.task.step nothing_planned → AllByRecursion (IsOfWork u) q.sources
of-work u d q whole of planned =
    let n = result_number u d in
    let known = number_of-within u.progress d.task.step d.task.tile of.within (counted-in u d whole of.inside) in
    let Of : Planned → Type 0 = λ x. AllByRecursion (IsOfWork u) x.sources in
    subst Of (planned-is u d whole of.inside ∙ sym planned) (read-of-work u (place_of_task u.progress n) (planned_of u.progress n).sources (task-can-read u n whole known (inr of.running)))

-- ---- a result that is found

pub found-of-running : (image : Option Picture) (u : ProgressView) (d : WindowTask) → IsFoundOf image u d → IsOfRunning u d
found-of-running image u d found =
    record { within = found.within; inside = found.inside; running = found.running; step = ap (λ (x : WindowTask). x.step) found.is; rect = ap (λ (x : WindowTask). x.rect) found.is }

-- a source has the level that is read there
level-source : (image : Option Picture) (u : ProgressView) (s : Source) (f : Picture) → IsWhole u → HasLevel image u → IsOfWork u s → IsSource image u s f → level_of f ≡ level_of_source u.input (levels u.progress.plan u.input) s
level-source image u (FromInput k) f whole level of source =
    let Has : Option Picture → Type 0 = λ o. HasLevel o u in
    subst Has source.0 level
level-source image u (FromStep k) f whole level of source =
    let same : level_of f ≡ level_of_plane (plane_at u k) = λ i. record { kind = source.kind i; maxval = source.maxval i } in
    same ∙ plane_at-level u k whole of.0

levels-sources : (image : Option Picture) (u : ProgressView) (place : Rect) (ss : List Source) (fs : List Picture) → IsWhole u → HasLevel image u → AllByRecursion (IsOfWork u) ss → AreSources image u ss fs
    → map level_of_window (map (window_of place) fs) ≡ map (level_of_source u.input (levels u.progress.plan u.input)) ss
levels-sources image u place [] [] whole level of sources = refl
levels-sources image u place [] (f ∷ fs) whole level of sources = absurd sources
levels-sources image u place (s ∷ ss) [] whole level of sources = absurd sources
levels-sources image u place (s ∷ ss) (f ∷ fs) whole level of sources =
    let first = level-source image u s f whole level of.0 sources.0 in
    let rest = levels-sources image u place ss fs whole level of.1 sources.1 in
    λ i. first i ∷ rest i

-- the windows of a result that is found have the levels that its step reads
pub found-levels : (image : Option Picture) (u : ProgressView) (d : WindowTask) (q : Planned) → IsWhole u → q ≡ get_or u.progress.plan d.task.step nothing_planned → IsFoundOf image u d
    → map level_of_window d.windows ≡ map (level_of_source u.input (levels u.progress.plan u.input)) q.sources
found-levels image u d q whole planned found =
    let n = result_number u d in
    let of = of-work u d q whole (found-of-running image u d found) planned in
    let Of : Planned → Type 0 = λ x. AreSources image u x.sources found.sources in
    let sources = subst Of (planned-is u d whole found.inside ∙ sym planned) found.are in
    ap (λ (x : WindowTask). map level_of_window x.windows) found.is ∙ levels-sources image u (place_of_task u.progress n) q.sources found.sources whole found.level of sources

pub found-sources : (image : Option Picture) (u : ProgressView) (d : WindowTask) (q : Planned) → IsWhole u → q ≡ get_or u.progress.plan d.task.step nothing_planned → (found : IsFoundOf image u d) → AreSources image u q.sources found.sources
found-sources image u d q whole planned found =
    let Of : Planned → Type 0 = λ x. AreSources image u x.sources found.sources in
    subst Of (planned-is u d whole found.inside ∙ sym planned) found.are

pub found-windows : (image : Option Picture) (u : ProgressView) (d : WindowTask) (place : Rect) → place ≡ place_of_task u.progress (result_number u d) → (found : IsFoundOf image u d) → d.windows ≡ map (window_of place) found.sources
found-windows image u d place is found = ap (λ (x : WindowTask). x.windows) found.is ∙ ap (λ (r : Rect). map (window_of r) found.sources) (sym is)

-- what the task reads is there
pub looked-up-there : (u : ProgressView) (d : WindowTask) (q : Planned) (place : Rect) → IsLookedUp u d q place → CanReadAll u place q.sources
looked-up-there u d q place at =
    let n = result_number u d in
    let of = at.of in
    let known = number_of-within u.progress d.task.step d.task.tile of.within (counted-in u d at.whole of.inside) in
    let At : Rect → Type 0 = λ r. CanReadAll u r (planned_of u.progress n).sources in
    let Of : Planned → Type 0 = λ x. CanReadAll u place x.sources in
    subst Of (planned-is u d at.whole of.inside ∙ sym at.planned) (subst At (sym at.reads) (task-can-read u n at.whole known (inr of.running)))

-- ---- what was made

-- an image of this level
image-at : Level → Picture
image-at l = record { kind = l.kind; width = 0; height = 0; maxval = l.maxval; samples = [] }

-- the level of a step, of the levels that it reads
levels-step : (plan : Plan) (input : Level) (k : ℕ) → ((j : ℕ) → AllByRecursion (IsSourceAt 1 j) (get_or plan j nothing_planned).sources) → k < length plan
    → get_or (levels plan input) k no_level ≡ level_of_step (get_or plan k nothing_planned).step (levels_read plan input k)
unfolding image-at
levels-step plan input k sources within =
    let f = image-at input in
    let s = (get_or plan k nothing_planned).step in
    ap (λ (ls : List Level). get_or ls k no_level) (levels-planes plan f 0 0 sources)
    ∙ get_or-map-level_of (planes plan (f ∷ []) 0 0) k
    ∙ ap level_of (plane_is plan (f ∷ []) 0 0 k 1 within (sources k))
    ∙ sym (level_of-plane_of s (planes_read plan (f ∷ []) 0 0 k) 0 0)
    ∙ ap (level_of_step s) (planes-levels plan f 0 0 k sources)

first-level : (ws : List SourceWindow) → get_or (map level_of_window ws) 0 no_level ≡ level_of_window (window_at ws 0)
first-level [] = refl
first-level (w ∷ ws) = refl

-- the level of what is made of windows
level-made : (d : WindowTask) → level_of (tile_made d) ≡ level_of_step d.step (map level_of_window d.windows)
level-made d =
    let first = first-level d.windows in
    sym (ap (λ (l : Level). level_of_step d.step (l ∷ [])) first)

-- what was made of a result fits its step and its tile
pub result-fits : (u : ProgressView) (d : WindowTask) (x : TileResult) → IsWhole u → IsFitOf u d → FitsStep d.step d.rect d.windows → IsMade d x → ResultFits u d.task.step d.task.tile x
result-fits u d x whole r fits is =
    let k = d.task.step in
    let plan = u.progress.plan in
    let of = r.of in
    let same : d.step ≡ (get_or plan k nothing_planned).step = of.step ∙ ap (λ (q : Planned). q.step) (planned-is u d whole of.inside) in
    let Made : Level → Level = λ l. record { kind = kind_of_step (get_or plan k nothing_planned).step l.kind; maxval = maxval_of_step (get_or plan k nothing_planned).step l.maxval } in
    let read : level_of (tile_made d) ≡ level_of_step (get_or plan k nothing_planned).step (levels_read plan u.input k)
    = level-made d ∙ ap (λ (s : PlanStep). level_of_step s (map level_of_window d.windows)) same ∙ ap Made r.level in
    fits-made u k d.task.tile d x whole
    (record {
      within = of.within;
      inside = of.inside;
      same = same;
      rect = of.rect ∙ tile_of_task-number_of u k d.task.tile whole of.inside;
      level = read ∙ sym (levels-step plan u.input k whole.workable.sources of.within) ∙ sym (plane_at-level u k whole of.within);
      kinds = fits.kinds;
      bounded = r.bounded;
    })
    is

-- ---- results that are true

-- what the work under a ticket reads, where its inputs are there
record ReadsTrue (c : CoreView) (m : Machine) (t : ℕ) (u : ProgressView) (image : ℕ) : Type 0 where
  pub level : HasLevel (image_of (value_at c.kept image)) u
  pub sources : (n : ℕ) → n < task_count u.progress → AreSources (image_of (value_at c.kept image)) u (planned_of u.progress n).sources (sources_of u.progress (images_of (input_values m t)) (true_planes m t u.progress) n)

-- the work is pending under the ticket, as it was planned, and reads this image
record IsPendingOn (c : CoreView) (m : Machine) (t : ℕ) (u : ProgressView) (image : ℕ) : Type 0 where
  pub stands : StandsFor c m
  pub within : t < length c.table.names
  pub pending : outcome_at c.table.outcomes t ≡ outcome.Pending
  pub work : progress_at c.work t ≡ Some u.progress
  pub whole : IsWhole u
  pub planned : IsPlannedAt c.table t u
  pub first : (submission_at c.table.submissions t).inputs.a ≡ Some image

-- the image that is read is that of the first input
kept-of : (c : CoreView) (m : Machine) (t : ℕ) (u : ProgressView) (image : ℕ) → IsPendingOn c m t u image → inputs_there m.table t ≡ true → ReadsKept c m t u image
kept-of c m t u image p there =
    let told = p.planned.input in
    let same : told.image ≡ image = cc (told.first, p.first) in
    let Kept : ℕ → Type 0 = λ i. ReadsKept c m t u i in
    subst Kept same (reads-kept c m t u p.stands p.within p.pending there told)

reads-true : (c : CoreView) (m : Machine) (t : ℕ) (u : ProgressView) (image n : ℕ) → IsPendingOn c m t u image → is_running u.progress n ≡ true → ReadsTrue c m t u image
reads-true c m t u image n p runs =
    let s = p.stands in
    let work = work-of c m t u.progress s p.within p.pending p.work in
    let there = work.there n (and_parts (flag u.progress.started n) (not (flag u.progress.finished n)) runs).0 in
    let reads = kept-of c m t u image p there in
    let Named : Table → Type 0 = λ w. t < length w.names in
    let Planned-at : Table → Type 0 = λ w. IsPlannedAt w t u in
    let planned = planned-at m t u (stands-sound c m s) (subst Named s.table p.within) (subst Planned-at s.table p.planned) p.whole in
    let truth = true-under m t u (record { whole = p.whole; planned = planned; work = work }) in
    let Level-of : Option Picture → Type 0 = λ x. HasLevel x u in
    record {
      level = subst Level-of (sym reads.kept) (sym (level-is reads.picture u.input u.tiling.width u.tiling.height reads.shape));
      sources = λ i within. sources-true c m t u i image reads p.whole (step_number-within u.progress i (some-whole u p.whole) within) (λ j known plane. plane-true m t u j truth known plane);
    }

-- a result that is tested against what is kept is the true task
pub result-true : (c : CoreView) (m : Machine) (u : ProgressView) (image : ℕ) (d : WindowTask) → StandsFor c m → d.task.ticket < length c.table.names → outcome_at c.table.outcomes d.task.ticket ≡ outcome.Pending
    → progress_at c.work d.task.ticket ≡ Some u.progress → IsWhole u → IsPlannedAt c.table d.task.ticket u → (submission_at c.table.submissions d.task.ticket).inputs.a ≡ Some image
    → IsResultOf (image_of (value_at c.kept image)) u d → d ≡ true_task m d.task.ticket u.progress (result_number u d)
result-true c m u image d s within pending work whole planned first r =
    let t = d.task.ticket in
    let n = result_number u d in
    let p : IsPendingOn c m t u image = record { stands = s; within = within; pending = pending; work = work; whole = whole; planned = planned; first = first } in
    let of = r.fit.of in
    let reads = reads-true c m t u image n p of.running in
    let known = number_of-within u.progress d.task.step d.task.tile of.within (counted-in u d whole of.inside) in
    r.task (sources_of u.progress (images_of (input_values m t)) (true_planes m t u.progress) n) (reads.sources n known)

-- the true task of a number, as a result, has this number
pub number-true : (m : Machine) (u : ProgressView) (t n : ℕ) (d : WindowTask) → d ≡ true_task m t u.progress n → result_number u d ≡ n
number-true m u t n d is = ap (λ (x : WindowTask). number_of u.progress x.task.step x.task.tile) is ∙ number_of-numbers u.progress n

-- a true result is found in what is kept
pub result-found : (c : CoreView) (m : Machine) (u : ProgressView) (image : ℕ) (d : WindowTask) → StandsFor c m → d.task.ticket < length c.table.names → outcome_at c.table.outcomes d.task.ticket ≡ outcome.Pending
    → progress_at c.work d.task.ticket ≡ Some u.progress → IsWhole u → IsPlannedAt c.table d.task.ticket u → (submission_at c.table.submissions d.task.ticket).inputs.a ≡ Some image
    → IsResult c m d → IsFoundOf (image_of (value_at c.kept image)) u d
result-found c m u image d s within pending work whole planned first r =
    let t = d.task.ticket in
    let n = r.number in
    let p : IsPendingOn c m t u image = record { stands = s; within = within; pending = pending; work = work; whole = whole; planned = planned; first = first } in
    let same : r.progress ≡ u.progress = cc (r.work, work) in
    let Runs : Progress → Type 0 = λ q. (n < task_count q) × (is_running q n ≡ true) × (d ≡ true_task m t q n) in
    let own = subst Runs same (r.within, r.running, r.task) in
    let is = own.2 in
    let some = some-whole u whole in
    let number = number-true m u t n d is in
    let reads = reads-true c m t u image n p own.1 in
    let Below : ℕ → Type 0 = λ k. k < length u.progress.plan in
    let Inside : ℕ → Type 0 = λ i. i < length u.progress.tiles in
    let counted = subst Inside (sym (ap (λ (x : WindowTask). x.task.tile) is)) (tile_number-within u.progress n some) in
    let Running : ℕ → Type 0 = λ k. is_running u.progress k ≡ true in
    let Read : ℕ → Type 0 = λ k. AreSources (image_of (value_at c.kept image)) u (planned_of u.progress k).sources (sources_of u.progress (images_of (input_values m t)) (true_planes m t u.progress) n) in
    let Task : ℕ → Type 0 = λ k. d ≡ task_on t u k (sources_of u.progress (images_of (input_values m t)) (true_planes m t u.progress) n) in
    record {
      within = subst Below (sym (ap (λ (x : WindowTask). x.task.step) is)) (step_number-within u.progress n some own.0);
      inside = omega (arith, counted, length-tiles u whole);
      running = subst Running (sym number) own.1;
      sources = sources_of u.progress (images_of (input_values m t)) (true_planes m t u.progress) n;
      are = subst Read (sym number) (reads.sources n own.0);
      level = reads.level;
      is = subst Task (sym number) is;
    }
