-- How a task that is taken, and a result, change what a ledger shows.
use Rattle.std.specs.Prelude.{ℕ, ◌≡◌, ◌-◌, ◌<◌, ◌≤◌, ◌++◌, ◌∷◌, [], length, slice_set, Option, Some, None}
use Rattle.mw_model.specs.declared.shapes.Shape.{Shape}
use Rattle.mw_model.specs.declared.shapes.Shape.TheVariants as shape
use Rattle.mw_model.specs.declared.calls.Outcome.TheVariants as outcome
use Rattle.mw_model.specs.declared.calls.LogItem.TheVariants as item
use Rattle.mw_model.specs.Values.{Value, ImageValue, CurveValue, image_of, value_at}
use Rattle.mw_model.specs.Refusals.{outcome_at, submission_at, shape_at}
use Rattle.mw_model.specs.Machine.{settled}
use Rattle.mw_model.specs.Tasks.{remaining_tasks}
use Rattle.mw_core_tasks.specs.mw_step_task.declared.tile_result.TileResult.{TileResult}
use Rattle.mw_core_tasks.specs.mw_step_task.Products.{IsMade}
use Rattle.mw_core_tasks.specs.mw_step_task.WindowTasks.{WindowTask}
use Rattle.mw_core_tasks.specs.mw_tile_planes.Filled.{filled}
use Rattle.mw_core_tasks.specs.mw_core_planes.MadeTiles.{cells_of_made}
use Rattle.mw_core_tasks.specs.mw_core_progress.ProgressView.{ProgressView, IsFinished, IsWhole, numbers_of, plane_at}
use Rattle.mw_core_tasks.specs.mw_store.Stored.{DropsSpent}
use Rattle.mw_core_tasks.specs.Results.{IsFitOf, IsFoundOf, result_number}
use Rattle.mw_core_tasks.specs.SourceWindows.{IsTaskOf, Takes}
use Rattle.mw_core_ledger.specs.Books.{Book, work_at}

-- There is work under the ticket, on the image under the first of its inputs.
pub record IsAtWork (b : Book) (t : ℕ) (u : ProgressView) (image : ℕ) : Type 0 where
  pub within : t < length b.table.names
  pub work : work_at b.in_progress t ≡ Some u
  pub whole : IsWhole u
  pub first : (submission_at b.table.submissions t).inputs.a ≡ Some image

-- A ready task of the ticket is taken; or there is none, and nothing changes.
pub record TakesAt (old : Book) (t : ℕ) (new : Book) (w : Option WindowTask) : Type 0 where
  pub before : ProgressView
  pub after : ProgressView
  pub image : ℕ
  pub number : ℕ
  pub at : IsAtWork old t before image
  pub takes : Takes (image_of (value_at old.kept image)) t before number after w
  pub book : new ≡ record old { in_progress = slice_set old.in_progress t (Some after) }

-- The result is that of a running task under a pending ticket but for what its windows show, and what was made of it fits its place.
pub record IsFitAt (b : Book) (d : WindowTask) : Type 0 where
  pub progress : ProgressView
  pub image : ℕ
  pub at : IsAtWork b d.task.ticket progress image
  pub pending : outcome_at b.table.outcomes d.task.ticket ≡ outcome.Pending
  pub fit : IsFitOf progress d

-- The result is that of a running task under a pending ticket, on what is kept.
pub record IsResultAt (b : Book) (d : WindowTask) : Type 0 where
  pub fits : IsFitAt b d
  pub task : IsTaskOf (image_of (value_at b.kept fits.image)) d.task.ticket fits.progress (result_number fits.progress d) d

-- There are sources on which a result is that of a running task, where the work is whole, as all work of a ledger is.
pub record IsFoundAt (b : Book) (d : WindowTask) : Type 0 where
  pub progress : ProgressView
  pub image : ℕ
  pub within : d.task.ticket < length b.table.names
  pub at : work_at b.in_progress d.task.ticket ≡ Some progress
  pub first : (submission_at b.table.submissions d.task.ticket).inputs.a ≡ Some image
  pub pending : outcome_at b.table.outcomes d.task.ticket ≡ outcome.Pending
  pub found : IsWhole progress → IsFoundOf (image_of (value_at b.kept image)) progress d

-- The task of a result is finished, with what was made.
pub record FinishesAt (old : Book) (d : WindowTask) (after : ProgressView) : Type 0 where
  pub was : IsFitAt old d
  pub made : TileResult
  pub is : IsMade d made
  pub finished : IsFinished was.progress after (result_number was.progress d) (cells_of_made made)
  pub whole : IsWhole after

-- others of its ticket are not
pub record PlacesAt (old : Book) (d : WindowTask) (new : Book) : Type 0 where
  pub after : ProgressView
  pub finishes : FinishesAt old d after
  pub left : 1 ≤ remaining_tasks after.progress
  pub book : new ≡ record old { in_progress = slice_set old.in_progress d.task.ticket (Some after) }

-- the value that finished work has made: of an image the plane of its last step, of a curve its numbers
abbrev pub value_made : Shape → ProgressView → Value
value_made (shape.Image k w h m) u = ImageValue (filled (plane_at u (length u.progress.plan - 1)))
value_made s u = CurveValue (numbers_of u.progress.plan u.planes)

-- it was the last of its ticket, which is settled with what was made
pub record SettlesAt (old : Book) (d : WindowTask) (new : Book) : Type 0 where
  pub after : ProgressView
  pub finishes : FinishesAt old d after
  pub last : remaining_tasks after.progress ≡ 0
  pub table : new.table ≡ settled old.table d.task.ticket outcome.Done
  pub kept : DropsSpent new.table (slice_set old.kept d.task.ticket (Some (value_made (shape_at old.table.submissions d.task.ticket) after))) new.kept
  pub in_progress : new.in_progress ≡ slice_set old.in_progress d.task.ticket None
  pub log : new.log ≡ old.log ++ item.Finished d.task.ticket ∷ []
  pub side : new.side ≡ old.side
