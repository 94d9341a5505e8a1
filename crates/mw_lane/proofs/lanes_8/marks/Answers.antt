use Rattle.std.proofs.Common.{arith}
use Rattle.std.specs.Int.{w8}
use Rattle.mw_lane.proofs.Marks.{marks_of_block, no_byte_reaches}
use Rattle.mw_lane.proofs.lanes_8.marks.Goals as goal

pub returns-then-k-gt255 : goal.returns-then-k-gt255
returns-then-k-gt255 c = no_byte_reaches c.args.k c.args.samples.now c.requires c.type_inv.samples (omega arith)

pub returns : goal.returns
returns c = marks_of_block w8 c.args.k c.args.samples.now c.requires
