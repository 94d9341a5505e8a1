use Rattle.mw_geodesic.proofs.Raised.{grown_itself, grown_on}
use Rattle.mw_geodesic.proofs.flood.sweep_down.Goals as goal

pub loop-y-init : goal.loop-y-init
loop-y-init c = grown_itself c.args.element.now c.args.mask.now c.args.canvas.now c.requires

pub loop-x-preserved : goal.loop-x-preserved
loop-x-preserved c = grown_on c.args.element.now c.args.mask.now c.args.canvas.now c.loop-x.canvas c.gain.new.canvas c.loop-x.invariant c.gain.ensures
