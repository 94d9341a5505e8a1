use Rattle.mw_tile.proofs.Rows.{pasted_run}
use Rattle.mw_tile.proofs.cuts.paste.Goals as goal

pub loop-y-preserved : goal.loop-y-preserved
loop-y-preserved g c =
    pasted_run c.loop-y.y c.args.plane.now c.loop-y.plane c.args.part.now c.copy_run.new.self c.args.rect c.copy_run.ensures c.height-size.ensures.size c.height-part.ensures.size c.requires.width c.requires.height c.requires.within c.loop-y-test.true c.loop-y.invariant
