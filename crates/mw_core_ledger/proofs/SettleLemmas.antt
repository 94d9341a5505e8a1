-- A task that is finished, and the ticket that it settles.
use Rattle.std.proofs.Common.{◌≡◌, ℕ, ◌-◌, ◌≤◌, ◌++◌, ◌∷◌, [], true, false, List, length, get_or, set, Option, Some, None, sym, ap, ◌∙◌, subst, arith}
use Rattle.std.proofs.lemmas.List.{set-set}
use Rattle.mw_model.specs.declared.calls.LogItem.TheVariants as item
use Rattle.mw_model.specs.declared.calls.Outcome.TheVariants as outcome
use Rattle.mw_model.specs.declared.shapes.Shape.{Shape}
use Rattle.mw_model.specs.declared.tasks.TaskId.{TaskId}
use Rattle.mw_model.specs.Values.{Value}
use Rattle.mw_model.specs.Refusals.{is_image, shape_at}
use Rattle.mw_model.specs.Machine.{settled}
use Rattle.mw_model.specs.Plans.{is_sum}
use Rattle.mw_model.specs.Tasks.{nothing_planned, remaining_tasks}
use Rattle.mw_core_tasks.specs.mw_step_task.declared.tile_result.TileResult.{TileResult}
use Rattle.mw_core_tasks.specs.mw_step_task.Products.{IsMade}
use Rattle.mw_core_tasks.specs.mw_step_task.WindowTasks.{FitsStep, WindowTask}
use Rattle.mw_core_tasks.specs.mw_core_planes.MadeTiles.{cells_of_made}
use Rattle.mw_core_tasks.specs.mw_core_progress.ProgressView.{ProgressView, ResultFits, IsFinished, IsWhole, number_of}
use Rattle.mw_core_tasks.specs.mw_store.Stored.{DropsSpent}
use Rattle.mw_core_tasks.proofs.ResultLemmas.{result-fits}
use Rattle.mw_core_ledger.specs.Books.{Book, IsOrderly, work_at}
use Rattle.mw_core_ledger.specs.Tasks.{FinishesAt, IsFitAt, PlacesAt, SettlesAt, value_made}
use Rattle.mw_core_ledger.proofs.OrderLemmas.{finished-goes_on, with_work, with-orderly}

-- the ledger is in order with the work after a task of it was finished, where tasks are left
pub finished-orderly : (b : Book) (d : WindowTask) (after : ProgressView) → IsOrderly b → FinishesAt b d after → 1 ≤ remaining_tasks after.progress → IsOrderly (with_work b d.task.ticket (Some after))
finished-orderly b d after o f left =
    let at = f.was.at in
    let on = finished-goes_on f.was.progress after _ _ f.finished in
    with-orderly b d.task.ticket f.was.progress after o (omega (arith, at.within, o.in_progress)) at.work on left

-- its last step is then still no Sum step, where the result is an image
pub finished-plane : (b : Book) (d : WindowTask) (after : ProgressView) → IsOrderly b → FinishesAt b d after → is_image (shape_at b.table.submissions d.task.ticket) ≡ true
    → is_sum (get_or after.progress.plan (length after.progress.plan - 1) nothing_planned).step ≡ false
finished-plane b d after o f image = rw f.finished.plan ((o.planned d.task.ticket f.was.progress f.was.at.work).last image)

-- the work stands there again
pub put-back : (old mid : Book) (t : ℕ) (u : ProgressView) → mid ≡ with_work old t None → with_work mid t (Some u) ≡ with_work old t (Some u)
put-back old mid t u is = ap (λ (b : Book). with_work b t (Some u)) is ∙ ap (λ (ws : List (Option ProgressView)). record old { in_progress = ws }) (set-set old.in_progress t None (Some u))

-- the same, where the ticket is known by another name
pub back-at : (old mid : Book) (t s : ℕ) (u : ProgressView) → s ≡ t → mid ≡ with_work old t None → with_work mid s (Some u) ≡ with_work old t (Some u)
back-at old mid t s u e is = ap (λ (i : ℕ). with_work mid i (Some u)) e ∙ put-back old mid t u is

pub places-at : (old mid : Book) (d : WindowTask) (s : ℕ) (after : ProgressView) → s ≡ d.task.ticket → FinishesAt old d after → mid ≡ with_work old d.task.ticket None → 1 ≤ remaining_tasks after.progress
    → PlacesAt old d (with_work mid s (Some after))
places-at old mid d s after e f is left = record { after = after; finishes = f; left = left; book = back-at old mid d.task.ticket s after e is }

-- what is told of a ticket that is settled
pub record IsSettledWith (mid : Book) (t : ℕ) (v : Value) (new : Book) : Type 0 where
  pub table : new.table ≡ settled mid.table t outcome.Done
  pub kept : DropsSpent new.table (set mid.kept t (Some v)) new.kept
  pub in_progress : new.in_progress ≡ mid.in_progress
  pub log : new.log ≡ mid.log ++ item.Finished t ∷ []
  pub side : new.side ≡ mid.side

pub settles-at : (old mid : Book) (d : WindowTask) (s : ℕ) (after : ProgressView) (new : Book) (x : Shape) (v : Value) → s ≡ d.task.ticket → FinishesAt old d after → mid ≡ with_work old d.task.ticket None
    → remaining_tasks after.progress ≡ 0 → x ≡ shape_at mid.table.submissions s → v ≡ value_made x after → IsSettledWith mid s v new → SettlesAt old d new
settles-at old mid d s after new x v e f is last shaped made told =
    let t = d.task.ticket in
    let ss = old.table.submissions in
    let shape : x ≡ shape_at ss t = shaped ∙ ap (λ (b : Book). shape_at b.table.submissions s) is ∙ ap (λ (i : ℕ). shape_at ss i) e in
    let value : v ≡ value_made (shape_at ss t) after = made ∙ ap (λ (y : Shape). value_made y after) shape in
    let Mid : Book → Type 0 = λ b. IsSettledWith b s v new in
    let At : ℕ → Type 0 = λ i. IsSettledWith (with_work old t None) i v new in
    let Of : Value → Type 0 = λ y. IsSettledWith (with_work old t None) t y new in
    let all = subst Of value (subst At e (subst Mid is told)) in
    record { after = after; finishes = f; last = last; table = all.table; kept = all.kept; in_progress = all.in_progress; log = all.log; side = all.side }

-- ---- the work of a result

-- the work that a look finds is the one that the result is of
pub work-of : (b : Book) (d : WindowTask) (k : TaskId) (u : ProgressView) (r : IsFitAt b d) → k ≡ d.task → work_at b.in_progress k.ticket ≡ Some u → u ≡ r.progress
work-of b d k u r e there =
    let same = ap (λ (i : TaskId). work_at b.in_progress i.ticket) e in
    let work = r.at.work in
    cc

pub fits-at : (b : Book) (d : WindowTask) (k : TaskId) (u : ProgressView) (x : TileResult) (r : IsFitAt b d) → k ≡ d.task → u ≡ r.progress → FitsStep d.step d.rect d.windows → IsMade d x → ResultFits u k.step k.tile x
fits-at b d k u x r e is fits made =
    let Of : ProgressView → Type 0 = λ v. ResultFits v d.task.step d.task.tile x in
    let At : TaskId → Type 0 = λ i. ResultFits u i.step i.tile x in
    subst At (sym e) (subst Of (sym is) (result-fits r.progress d x r.at.whole r.fit fits made))

pub finishes-at : (b : Book) (d : WindowTask) (k : TaskId) (u after : ProgressView) (x : TileResult) (r : IsFitAt b d) → k ≡ d.task → u ≡ r.progress → IsMade d x → IsFinished u after (number_of u.progress k.step k.tile) (cells_of_made x)
    → IsWhole after → FinishesAt b d after
finishes-at b d k u after x r e is made f whole =
    let At : TaskId → Type 0 = λ i. IsFinished u after (number_of u.progress i.step i.tile) (cells_of_made x) in
    let Of : ProgressView → Type 0 = λ v. IsFinished v after (number_of v.progress d.task.step d.task.tile) (cells_of_made x) in
    record { was = r; made = x; is = made; finished = subst Of is (subst At e f); whole = whole }
