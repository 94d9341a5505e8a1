use Rattle.std.proofs.Common.{arith}
use Rattle.mw_grid.specs.Blocks.{in_block, sees}
use Rattle.mw_ready.specs.Kept.{is_near}
use Rattle.mw_ready.proofs.Boxes.{at_step_is}
use Rattle.mw_ready.proofs.Lowering.{lowers_same, waiting_same}
use Rattle.mw_ready.proofs.release.release_tiles.Goals as goal

pub release_block-requires-clause-waiting : goal.release_block-requires-clause-waiting
release_block-requires-clause-waiting c =
    let a = c.args in
    waiting_same (in_block a.grid c.at_step.result) (is_near a.grid a.reach a.step a.tile) a.queue.now
    (λ t. at_step_is a.grid c.meeting-block.result c.at_step.result (λ v. sees a.grid a.reach v a.tile) a.step t (omega (arith, c.requires.tile)) c.at_step.ensures.tasks c.meeting-block.ensures.meets) c.requires.waiting

pub returns-clause-lowers : goal.returns-clause-lowers
returns-clause-lowers c =
    let a = c.args in
    lowers_same (in_block a.grid c.at_step.result) (is_near a.grid a.reach a.step a.tile) a.queue.now.waiting c.release_block.new.queue.waiting
    (λ t. at_step_is a.grid c.meeting-block.result c.at_step.result (λ v. sees a.grid a.reach v a.tile) a.step t (omega (arith, c.requires.tile)) c.at_step.ensures.tasks c.meeting-block.ensures.meets) c.release_block.ensures.lowers
