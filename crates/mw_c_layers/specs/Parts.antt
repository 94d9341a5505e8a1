-- Strips of images.
use Rattle.std.specs.Prelude.{List}
use Rattle.mw_model.specs.declared.offsets.Rect.{Rect}
use Rattle.mw_model.specs.Pictures.{Picture, picture, sample}
use Rattle.mw_model.specs.PlanSteps.{PlanStep, kind_of_step, maxval_of_step}
use Rattle.mw_model.specs.Tasks.{cells_in}
use Rattle.mw_tile.specs.Windows.{SourceWindow}
pub use Rattle.mw_tile.specs.Windows.{whole_window}
pub use Rattle.mw_c_lent.specs.Rows.{HasImageRows, IsStrip}
use Rattle.mw_step_task.specs.WindowTasks.{made_of_windows, window_at}

-- what an image has in a rectangle, as an image
abbrev pub part_of : Picture → Rect → Picture
part_of f r = picture f.kind r.width r.height f.maxval (cells_in r (sample f))

-- the image that a step makes of windows in a tile
abbrev pub made_picture : PlanStep → List SourceWindow → Rect → Picture
made_picture s ws tile =
    picture (kind_of_step s (window_at ws 0).kind) tile.width tile.height (maxval_of_step s (window_at ws 0).maxval) (made_of_windows s ws tile)
