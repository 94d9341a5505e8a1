use Rattle.std.proofs.Common.{arith, rules}
use Rattle.mw_tile_pieces.specs.mw_tile.Windows.{SourceWindow}
use Rattle.mw_step_task.specs.Meanings.{meaning}
use Rattle.mw_step_task.specs.WindowTasks.{IsRead}
use Rattle.mw_step_task.proofs.AllOf.{all_end, all_fails}
use Rattle.mw_step_task.proofs.reads.all_read.Goals as goal

pub returns-then-not-is_read : goal.returns-then-not-is_read
returns-then-not-is_read c =
    let P : SourceWindow → Type 0 = IsRead (meaning c.args.step.now) c.args.tile c.args.width c.args.height in
    ((λ f. absurd (search rules)), (λ all. absurd (all_fails P c.args.windows.now c.loop-window.window-index c.window-item.result (omega arith) c.window-item.is (search rules) c.loop-window.invariant all)))

pub returns : goal.returns
returns c =
    let P : SourceWindow → Type 0 = IsRead (meaning c.args.step.now) c.args.tile c.args.width c.args.height in
    ((λ t. all_end P c.args.windows.now c.loop-window.window-index (omega arith) c.loop-window.invariant), (λ all. search rules))
