use Rattle.std.proofs.Common.{◌-◌, ◌*◌, arith}
use Rattle.mw_geodesic_distances.proofs.Heights.{meetings}
use Rattle.mw_geodesic_distances.proofs.envelope.meeting.Goals as goal

pub returns : goal.returns
returns c =
    meetings c.args.i c.args.u c.args.gap_i c.args.gap_u (c.height.result - c.height-2.result) (2 * c.from-twice.result) c.requires.order c.requires.below
    (omega (arith, c.height.ensures, c.height-2.ensures)) (omega (arith, c.from-twice.ensures))
