use Rattle.mw_geodesic_runs.proofs.Tallies.{first_begins, next_begins}
use Rattle.mw_geodesic_runs.proofs.runs.begin_bits.Goals as goal

pub returns-clause-first : goal.returns-clause-first
returns-clause-first c = first_begins c.args.word c.args.last c.requires

pub returns-clause-others : goal.returns-clause-others
returns-clause-others c = λ i lt. next_begins c.args.word c.args.last i c.requires lt
