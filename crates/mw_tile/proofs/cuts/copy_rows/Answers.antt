use Rattle.mw_tile.proofs.Rows.{cut_none, cut_next, cut_done}
use Rattle.mw_tile.proofs.cuts.copy_rows.Goals as goal

pub loop-y-init : goal.loop-y-init
loop-y-init g c = cut_none c.args.plane.now c.args.part.now c.args.rect c.requires.width c.requires.height c.height-room.ensures.size

pub loop-y-preserved : goal.loop-y-preserved
loop-y-preserved g c = cut_next c.args.plane.now c.loop-y.part c.copy_run.new.self c.args.rect c.loop-y.y c.copy_run.ensures c.height-size.ensures.size c.requires.within c.loop-y-test.true c.loop-y.invariant

pub returns-clause-cut : goal.returns-clause-cut
returns-clause-cut g c = cut_done c.args.plane.now c.loop-y.part c.args.rect c.loop-y.y c.requires.within c.loop-y-test.false c.loop-y.invariant
