use Rattle.std.proofs.Common.{arith, ◌+◌, ◌-◌}
use Rattle.mw_lane.proofs.Blocks.{block_merged}
use Rattle.mw_lane.proofs.ahead.merged_block.Goals as goal

pub returns : goal.returns
returns g c = λ p d lt.
    block_merged g.E.Extremum.merge c.args.row.now c.block_at-block.result c.combine_block.new.acc c.args.at c.args.shift (c.args.at + 64 - c.args.at) (c.args.at + c.args.shift + 64 - (c.args.at + c.args.shift)) p d
    c.requires (omega arith) (omega arith) c.block_at-block.ensures c.combine_block.ensures lt
