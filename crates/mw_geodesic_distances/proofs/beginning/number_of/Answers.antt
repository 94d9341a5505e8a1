use Rattle.mw_geodesic_distances.proofs.Begun.{started_in, started_out}
use Rattle.mw_geodesic_distances.proofs.beginning.number_of.Goals as goal

pub returns-then-word-bit-eq1 : goal.returns-then-word-bit-eq1
returns-then-word-bit-eq1 c = started_in c.args.top c.args.word c.args.bit c.if-word-bit-eq1.true

pub returns-else-word-bit-eq1 : goal.returns-else-word-bit-eq1
returns-else-word-bit-eq1 c = started_out c.args.top c.args.word c.args.bit c.if-word-bit-eq1.false
