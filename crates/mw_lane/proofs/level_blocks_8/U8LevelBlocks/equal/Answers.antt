use Rattle.std.proofs.Common.{ℕ, eqb, arith}
use Rattle.std.specs.Int.{w8}
use Rattle.mw_lane.proofs.Tested.{bit_equal, bit_of_none, none_equal}
use Rattle.mw_lane.proofs.level_blocks_8.U8LevelBlocks.equal.Goals as goal

pub returns-then-v-gt255 : goal.returns-then-v-gt255
returns-then-v-gt255 c = bit_of_none (λ (s : ℕ). eqb s c.args.v) c.args.v c.args.block.now c.requires (λ i. omega (arith, (c.type_inv.block i).fits)) (none_equal c.args.v)

pub returns : goal.returns
returns c = bit_equal w8 c.args.v c.args.block.now c.requires
