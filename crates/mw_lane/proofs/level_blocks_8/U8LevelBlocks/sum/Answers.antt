use Rattle.std.proofs.Common.{arith, ◌∙◌}
use Rattle.std.specs.Int.{w8, w16, w32}
use Rattle.mw_lane.proofs.Tested.{lanes_fit, lanes_small, lanes_sum}
use Rattle.mw_lane.proofs.level_blocks_8.U8LevelBlocks.sum.Goals as goal

pub overflow_add-levels : goal.overflow_add-levels
overflow_add-levels c = lanes_fit w8 w16 c.args.block.now c.requires c.type_inv.block (omega arith)

pub returns-clause-sum : goal.returns-clause-sum
returns-clause-sum c = c.from.ensures ∙ lanes_sum c.args.block.now c.requires

pub returns-clause-small : goal.returns-clause-small
returns-clause-small c = let small = lanes_small w8 w32 c.args.block.now c.requires c.type_inv.block (omega arith) in omega (arith, c.from.ensures)
