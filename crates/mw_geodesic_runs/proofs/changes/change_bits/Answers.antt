use Rattle.mw_geodesic_runs.proofs.ChangedPlaces.{first_change, later_change}
use Rattle.mw_geodesic_runs.proofs.changes.change_bits.Goals as goal

pub returns-clause-first : goal.returns-clause-first
returns-clause-first c = first_change c.args.word c.args.last c.requires

pub returns-clause-others : goal.returns-clause-others
returns-clause-others c = λ i lt. later_change c.args.word c.args.last i c.requires lt
