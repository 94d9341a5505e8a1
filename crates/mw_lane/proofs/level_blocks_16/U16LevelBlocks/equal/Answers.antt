use Rattle.std.proofs.Common.{ℕ, eqb, arith}
use Rattle.std.specs.Int.{w16}
use Rattle.mw_lane.proofs.Tested.{bit_equal, bit_of_none, none_equal}
use Rattle.mw_lane.proofs.level_blocks_16.U16LevelBlocks.equal.Goals as goal

pub returns-then-v-gt65535 : goal.returns-then-v-gt65535
returns-then-v-gt65535 c = bit_of_none (λ (s : ℕ). eqb s c.args.v) c.args.v c.args.block.now c.requires (λ i. omega (arith, (c.type_inv.block i).fits)) (none_equal c.args.v)

pub returns : goal.returns
returns c = bit_equal w16 c.args.v c.args.block.now c.requires
