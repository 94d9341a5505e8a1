use Rattle.mw_geodesic.proofs.Raised.{grown_itself, grown_on}
use Rattle.mw_geodesic.proofs.flood.sweep_up.Goals as goal

pub loop-row-init : goal.loop-row-init
loop-row-init c = grown_itself c.args.element.now c.args.mask.now c.args.canvas.now c.requires

pub loop-column-preserved : goal.loop-column-preserved
loop-column-preserved c = grown_on c.args.element.now c.args.mask.now c.args.canvas.now c.loop-column.canvas c.gain.new.canvas c.loop-column.invariant c.gain.ensures
