use Rattle.std.proofs.Common.{arith}
use Rattle.mw_lane.proofs.Marks.{mark_step, marks_done}
use Rattle.mw_lane.proofs.lanes_16.U16Lanes.threshold_block.Goals as goal

pub loop-i-preserved : goal.loop-i-preserved
loop-i-preserved c = mark_step c.args.k c.loop-i.i c.new.result c.args.out.now c.args.src.now c.loop-i.out c.marks-marks.result (omega arith) (omega arith) c.loop-i.invariant c.marks-marks.ensures c.new.ensures

pub returns : goal.returns
returns c = marks_done c.args.k c.loop-i.i c.args.out.now c.args.src.now c.loop-i.out (omega arith) (omega arith) c.loop-i.invariant
