use Rattle.std.proofs.Common.{leb, arith}
use Rattle.std.specs.Int.{w8}
use Rattle.mw_lane.proofs.Tested.{bit_reached, bit_of_none, none_reach}
use Rattle.mw_lane.proofs.level_blocks_8.U8LevelBlocks.at_least.Goals as goal

pub returns-then-k-gt255 : goal.returns-then-k-gt255
returns-then-k-gt255 c = bit_of_none (leb c.args.k) c.args.k c.args.block.now c.requires (λ i. omega (arith, (c.type_inv.block i).fits)) (none_reach c.args.k)

pub returns : goal.returns
returns c = bit_reached w8 c.args.k c.args.block.now c.requires
