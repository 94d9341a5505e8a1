use Rattle.std.specs.Int.{w16}
use Rattle.mw_lane.proofs.Marks.{marks_of_block}
use Rattle.mw_lane.proofs.lanes_16.marks.Goals as goal

pub returns : goal.returns
returns c = marks_of_block w16 c.args.k c.args.samples.now c.requires
