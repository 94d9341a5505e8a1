use Rattle.mw_lane.proofs.Differences.{difference_stored}
use Rattle.mw_lane.proofs.lanes_8.U8Lanes.subtract_block.Goals as goal

pub returns : goal.returns
returns c = difference_stored c.args.acc.now c.args.other.now c.differences.result c.requires.whole c.requires.paired c.differences.ensures
