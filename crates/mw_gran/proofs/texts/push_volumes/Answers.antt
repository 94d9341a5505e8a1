use Rattle.std.proofs.Common.{arith}
use Rattle.mw_gran.proofs.CurveTexts.{one_line_more, all_volumes, volume_text}
use Rattle.mw_gran.proofs.texts.push_volumes.Goals as goal

pub loop-i-preserved : goal.loop-i-preserved
loop-i-preserved c = one_line_more (volume_text c.args.volumes.now) c.loop-i.i c.args.text.now.items c.loop-i.text.items c.push_line.new.text.items c.loop-i.invariant c.in_ok-push_line.ensures

pub returns : goal.returns
returns c = all_volumes c.args.volumes.now c.loop-i.i c.args.text.now.items c.loop-i.text.items (omega arith) c.loop-i.invariant
