use Rattle.std.proofs.Common.{arith}
use Rattle.mw_geodesic_labels.proofs.Overwritten.{written_none, written_more, written_less}
use Rattle.mw_geodesic_labels.proofs.overwriting.write_places.Goals as goal

pub loop-k-init : goal.loop-k-init
loop-k-init g c = written_none c.args.start _ c.args.value c.args.places.now (omega arith)

pub loop-k-preserved : goal.loop-k-preserved
loop-k-preserved g c = written_more c.args.start c.loop-k.k _ c.args.value c.args.places.now c.loop-k.places (omega arith) (omega arith) (omega arith) c.loop-k.invariant

pub returns : goal.returns
returns g c = written_less c.args.start c.loop-k.k c.args.end c.args.value c.args.places.now c.loop-k.places (omega arith) c.loop-k.invariant
