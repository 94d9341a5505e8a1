use Rattle.std.proofs.Common.{arith}
use Rattle.mw_geodesic.proofs.Raised.{grown_itself, grown_on, gained_grown}
use Rattle.mw_geodesic.proofs.flood.gain.Goals as goal

pub loop-i-init : goal.loop-i-init
loop-i-init c = grown_itself c.args.element.now c.args.mask.now c.args.canvas.now c.requires.picture

pub loop-i-preserved : goal.loop-i-preserved
loop-i-preserved c =
    let before = c.loop-i.invariant in
    let e = c.args.element.now in
    grown_on e c.args.mask.now c.args.canvas.now c.loop-i.canvas c.gain_by.new.canvas before
    (gained_grown e c.loop-i.i _ c.args.mask.now c.loop-i.canvas c.args.p c.gain_by.new.canvas (omega arith) before.picture
    (omega (arith, before.width, c.requires.column)) (omega (arith, before.height, c.requires.row)) c.gain_by.ensures)
