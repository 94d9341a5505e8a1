use Rattle.mw_geodesic_runs.specs.Rows.{Overlap}
use Rattle.mw_geodesic_runs.proofs.Classes.{joined_if, joined_not}
use Rattle.mw_geodesic_runs.proofs.uniting.unite_overlapping.Goals as goal

pub returns-then-overlap-clause-joined : goal.returns-then-overlap-clause-joined
returns-then-overlap-clause-joined c = joined_if (Overlap c.args.reach c.args.a c.args.b) c.args.parent.now c.join.new.parent c.args.i c.args.j (c.overlap.ensures.yes c.if-overlap.true) c.join.ensures.joined

pub returns-else-overlap-clause-joined : goal.returns-else-overlap-clause-joined
returns-else-overlap-clause-joined c = joined_not (Overlap c.args.reach c.args.a c.args.b) c.args.parent.now c.args.i c.args.j (c.overlap.ensures.no c.if-overlap.false)
