-- Results of tasks: what a ledger does with one is what the core does, for each machine that it stands for.
use Rattle.std.specs.Prelude.{option_map}
use Rattle.std.proofs.Common.{◌≡◌, ℕ, ◌-◌, ◌<◌, true, false, not, map, length, set, Some, None, sym, ap, ◌∙◌, subst, arith, inl, inr}
use Rattle.std.proofs.lemmas.Bool.{and_parts, cases_Bool}
use Rattle.std.proofs.lemmas.List.{map-set}
use Rattle.mw_model.specs.declared.shapes.Shape.{Shape}
use Rattle.mw_model.specs.declared.shapes.Shape.TheVariants as shape
use Rattle.mw_model.specs.declared.tasks.TaskId.{TaskId}
use Rattle.mw_model.specs.declared.calls.Outcome.TheVariants as outcome
use Rattle.mw_model.specs.Pictures.{Picture}
use Rattle.mw_model.specs.Values.{ImageValue, value_at}
use Rattle.mw_model.specs.Refusals.{Table, is_element, is_pending, outcome_at, shape_at, submission_at}
use Rattle.mw_model.specs.Machine.{Machine, values}
use Rattle.mw_model.specs.Tasks.{Progress, flag, remaining_tasks}
use Rattle.mw_model.specs.Stands.{CoreView, StandsFor, inputs_there}
use Rattle.mw_grid.proofs.Tiles.{HasTiles}
use Rattle.mw_core_refusals.specs.mw_step_task.Products.{IsMade}
use Rattle.mw_core_refusals.specs.mw_step_task.WindowTasks.{WindowTask}
use Rattle.mw_core_ledger.specs.mw_core_planes.MadeTiles.{cells_of_made}
use Rattle.mw_core_ledger.specs.mw_core_progress.ProgressView.{ProgressView, plane_at}
use Rattle.mw_core_ledger.specs.mw_core_laws.Works as in_progress
use Rattle.mw_core_ledger.specs.mw_core_laws.Works.{IsTrueWork, IsUnder, true_task}
use Rattle.mw_core_ledger.proofs.mw_core_laws.Curves.{result-curve}
use Rattle.mw_core_ledger.proofs.mw_core_laws.Going.{true-finished, true-under, under-finished}
use Rattle.mw_core_ledger.proofs.mw_core_laws.Making.{finishes-made}
use Rattle.mw_core_ledger.proofs.mw_core_laws.Numbers.{has-tiles, length-tiles, number_of-within, step_number-number_of, tile_number-number_of}
use Rattle.mw_core_ledger.proofs.mw_core_laws.Settling.{result-image}
use Rattle.mw_core_ledger.specs.mw_core_laws.TaskEvents.{IsResult, IsUnderway, Places, Settles}
use Rattle.mw_core_ledger.proofs.mw_core_laws.GivenLemmas.{elements-given}
use Rattle.mw_core_ledger.proofs.mw_core_laws.TaskLemmas.{work-within}
use Rattle.mw_core_ledger.specs.mw_core_tasks.Results.{result_number}
use Rattle.mw_core_ledger.proofs.mw_core_tasks.PlanTaskLemmas.{IsResultOn, places, settles}
use Rattle.mw_core_ledger.proofs.mw_core_tasks.ResultLemmas.{number-true, result-found, result-true}
use Rattle.mw_core_ledger.specs.Books.{Book, IsOrderly, progress_of, seen_of}
use Rattle.mw_core_ledger.specs.Tasks.{FinishesAt, IsFitAt, IsFoundAt, IsResultAt, PlacesAt, SettlesAt, value_made}
use Rattle.mw_core_ledger.proofs.SeenLemmas.{progress-seen, work-shown}
use Rattle.mw_core.specs.declared.answers.Finish.{Finish}
use Rattle.mw_core.specs.declared.answers.Finish.TheVariants as finish
use Rattle.mw_core.specs.TaskAnswers.{AnswersFinish, IsOwn, TakenAt}
use Rattle.mw_core.proofs.FilledLemmas.{full-filled}
use Rattle.mw_core.proofs.TaskLemmas.{complete-seen, seen-set, under-work}

-- the result is that of the true task of its numbers
abbrev pub IsTrueResult : Machine → WindowTask → ProgressView → Type 0
IsTrueResult m d u = d ≡ true_task m d.task.ticket u.progress (result_number u d)

-- it is that of a running task
running-here : (b : Book) (d : WindowTask) → (r : IsFitAt b d) → IsResultOn (seen_of b) d r.progress (result_number r.progress d)
running-here b d r =
    let u = r.progress in
    record {
      within = r.at.within;
      pending = r.pending;
      work = progress-seen b.in_progress d.task.ticket u r.at.work;
      in_plan = number_of-within u.progress d.task.step d.task.tile r.fit.of.within (omega (arith, r.fit.of.inside, length-tiles u r.at.whole));
      running = r.fit.of.running;
    }

-- a ticket's work, beside the machine
result-under : (b : Book) (m : Machine) (d : WindowTask) → StandsFor (seen_of b) m → IsOrderly b → (r : IsFitAt b d) → IsUnder m d.task.ticket r.progress
result-under b m d s orderly r = under-work b m d.task.ticket r.progress r.image s orderly r.at r.pending

-- what was made is what the task makes by the definitions
finishes-here : (b : Book) (m : Machine) (d : WindowTask) (v : ProgressView) → StandsFor (seen_of b) m → IsOrderly b → (f : FinishesAt b d v) → IsTrueResult m d f.was.progress
    → in_progress.Finishes m d.task.ticket f.was.progress v (result_number f.was.progress d)
finishes-here b m d v s orderly f task =
    let t = d.task.ticket in
    let u = f.was.progress in
    let n = result_number u d in
    let TileResult : WindowTask → Type 0 = λ x. IsMade x f.made in
    finishes-made m t u v n f.made (true-under m t u (result-under b m d s orderly f.was)) (running-here b d f.was).in_plan f.was.fit.of.running (subst TileResult task f.is) f.finished f.whole

-- ---- others of the ticket are not finished

places-at : (b new : Book) (m : Machine) (d : WindowTask) → StandsFor (seen_of b) m → IsOrderly b → (p : PlacesAt b d new) → IsTrueResult m d p.finishes.was.progress → Places (seen_of b) m d (seen_of new)
places-at b new m d s orderly p task =
    let c : CoreView = seen_of b in
    let f = p.finishes in
    let t = d.task.ticket in
    let u = f.was.progress in
    let v = p.after in
    let n = result_number u d in
    let next = under-finished m t u v n (result-under b m d s orderly f.was) (finishes-here b m d v s orderly f task) p.left in
    places c (seen_of new) m d u v n (cells_of_made f.made) s (complete-seen b orderly) (running-here b d f.was) task f.finished next.work (seen-set b new t (Some v) p.book)

-- the work under the task's ticket is other work, and nothing else
pub placed-under : (b new : Book) (d : WindowTask) → (p : PlacesAt b d new) → (k : TaskId) → k ≡ d.task → new ≡ record b { in_progress = set b.in_progress k.ticket (Some p.after) }
placed-under b new d p k same = p.book ∙ ap (λ (x : TaskId). record b { in_progress = set b.in_progress x.ticket (Some p.after) }) (sym same)

-- ---- it was the last of its ticket

-- a pending ticket is no element
no-element : (c : CoreView) (m : Machine) (t : ℕ) → StandsFor c m → t < length c.table.names → outcome_at c.table.outcomes t ≡ outcome.Pending → is_element (shape_at c.table.submissions t) ≡ false
no-element c m t s within pending =
    elim (cases_Bool (is_element (shape_at c.table.submissions t))) [
      | inl element ↦
          let Named : Table → Type 0 = λ w. t < length w.names in
          let Element : Table → Type 0 = λ w. is_element (shape_at w.submissions t) ≡ true in
          let Pends : Table → Type 0 = λ w. is_pending (outcome_at w.outcomes t) ≡ true in
          let given = elements-given c.log m s.run t (subst Named s.table within) (subst Element s.table element) in
          let waits : is_pending (outcome_at m.table.outcomes t) ≡ true = subst Pends s.table (ap is_pending pending) in
          absurd cc
      | inr other ↦ other
    ]

-- what finished work has made is the value under the ticket
value-made : (m : Machine) (t : ℕ) (v : ProgressView) (e : Shape) → (submission_at m.table.submissions t).shape ≡ e → is_element e ≡ false → IsTrueWork m t v → remaining_tasks v.progress ≡ 0
    → value_at (values m) t ≡ Some (value_made e v)
value-made m t v (shape.Image k w h x) is other work none =
    let result = result-image m t v k w h x work none is in
    let last = length v.progress.plan - 1 in
    let tiles = subst HasTiles (sym (work.whole.tilings last)) (has-tiles v.tiling work.whole.tiling) in
    result.value ∙ ap (λ (f : Picture). Some (ImageValue f)) (sym (full-filled (plane_at v last) result.image tiles result.full result.plane))
value-made m t v (shape.Element w h) is other work none = absurd cc
value-made m t v (shape.Curve n) is other work none = result-curve m t v n work none is

settles-at : (b new : Book) (m : Machine) (d : WindowTask) → StandsFor (seen_of b) m → IsOrderly b → (p : SettlesAt b d new) → IsTrueResult m d p.finishes.was.progress
    → Settles (seen_of b) m d d.task.ticket (seen_of new)
settles-at b new m d s orderly p task =
    let c : CoreView = seen_of b in
    let f = p.finishes in
    let t = d.task.ticket in
    let u = f.was.progress in
    let v = p.after in
    let n = result_number u d in
    let under = result-under b m d s orderly f.was in
    let done = finishes-here b m d v s orderly f task in
    let e = shape_at b.table.submissions t in
    let there : inputs_there m.table t ≡ true = under.work.there n (and_parts (flag u.progress.started n) (not (flag u.progress.finished n)) f.was.fit.of.running).0 in
    let own : value_at (values m) t ≡ Some (value_made e v)
    = value-made m t v e (ap (λ (w : Table). shape_at w.submissions t) (sym s.table)) (no-element c m t s f.was.at.within f.was.pending) (true-finished m t u v n (true-under m t u under) done) p.last in
    settles c (seen_of new) m d u n (value_made e v) s (complete-seen b orderly) (running-here b d f.was) task there (omega (arith, f.finished.lowered, p.last)) own p.table p.kept
    (ap (map (option_map progress_of)) p.in_progress ∙ map-set (option_map progress_of) b.in_progress t None) p.log

-- ---- what the ledger tells of a result

-- one that was tested against what is kept is that of the true task
result-at : (b : Book) (m : Machine) (d : WindowTask) → StandsFor (seen_of b) m → IsOrderly b → (r : IsResultAt b d) → IsTrueResult m d r.fits.progress
result-at b m d s orderly r =
    let t = d.task.ticket in
    let at = r.fits.at in
    let u = r.fits.progress in
    result-true (seen_of b) m u r.fits.image d s at.within r.fits.pending (progress-seen b.in_progress t u at.work) at.whole (orderly.planned t u at.work) at.first (record { fit = r.fits.fit; task = r.task })

pub tested-true : (b : Book) (m : Machine) (d : WindowTask) → StandsFor (seen_of b) m → IsOrderly b → IsResultAt b d → (r : IsFitAt b d) → IsTrueResult m d r.progress
tested-true b m d s orderly x r =
    let True : ProgressView → Type 0 = λ u. IsTrueResult m d u in
    let one = x.fits.at.work in
    let other = r.at.work in
    let same : x.fits.progress ≡ r.progress = cc in
    subst True same (result-at b m d s orderly x)

-- one that is the core's own is that of the true task
pub own-true : (b : Book) (m : Machine) (d : WindowTask) → IsOwn (seen_of b) m d → (r : IsFitAt b d) → IsTrueResult m d r.progress
own-true b m d own r =
    let u = r.progress in
    let t = d.task.ticket in
    let here = running-here b d r in
    let inside : d.task.tile < length u.progress.tiles = omega (arith, r.fit.of.inside, length-tiles u r.at.whole) in
    let underway : IsUnderway (seen_of b) d.task = record {
      progress = u.progress;
      number = result_number u d;
      work = here.work;
      within = here.in_plan;
      running = here.running;
      step = sym (step_number-number_of u.progress d.task.step d.task.tile inside);
      tile = sym (tile_number-number_of u.progress d.task.step d.task.tile inside);
    } in
    let found = own r.at.within underway in
    let one = found.work in
    let other = here.work in
    let same : found.progress ≡ u.progress = cc in
    let True : Progress → Type 0 = λ p. d ≡ true_task m t p found.number in
    let Of : ℕ → Type 0 = λ n. d ≡ true_task m t u.progress n in
    let is = subst True same found.task in
    subst Of (sym (number-true m u t found.number d is)) is

-- what the ledger has taken, the core has finished
pub taken-finishes : (b new : Book) (m : Machine) (d : WindowTask) (f : Finish) → StandsFor (seen_of b) m → IsOrderly b → TakenAt b d f new → ((r : IsFitAt b d) → IsTrueResult m d r.progress) → AnswersFinish (seen_of b) m d f (seen_of new)
taken-finishes b new m d finish.Placed s orderly p is = places-at b new m d s orderly p (is p.finishes.was)
taken-finishes b new m d (finish.Settled t) s orderly p is =
    let Of : ℕ → Type 0 = λ k. Settles (seen_of b) m d k (seen_of new) in
    subst Of (sym p.0) (settles-at b new m d s orderly p.1 (is p.1.finishes.was))
taken-finishes b new m d finish.Late s orderly p is = absurd p
taken-finishes b new m d finish.Stranger s orderly p is = absurd p

-- and each of the machine's is found
pub found-at : (b : Book) (m : Machine) (d : WindowTask) → StandsFor (seen_of b) m → IsOrderly b → IsResult (seen_of b) m d → IsFoundAt b d
found-at b m d s orderly r =
    let c : CoreView = seen_of b in
    let t = d.task.ticket in
    let shown = work-shown b.in_progress t r.progress r.work in
    let u = shown.0 in
    let planned = orderly.planned t u shown.1 in
    let within = work-within c t r.progress (complete-seen b orderly) r.work in
    let pending : outcome_at b.table.outcomes t ≡ outcome.Pending = ap (λ (w : Table). outcome_at w.outcomes t) s.table ∙ s.idle t r.progress r.work in
    record {
      progress = u;
      image = planned.input.image;
      within = within;
      at = shown.1;
      first = planned.input.first;
      pending = pending;
      found = λ whole. result-found c m u planned.input.image d s within pending (progress-seen b.in_progress t u shown.1) whole planned planned.input.first r;
    }
