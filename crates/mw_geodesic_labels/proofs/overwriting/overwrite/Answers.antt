use Rattle.std.proofs.Common.{arith}
use Rattle.mw_geodesic_labels.proofs.Overwritten.{written_on, written_less}
use Rattle.mw_geodesic_labels.proofs.overwriting.overwrite.Goals as goal

pub returns-then-at-end : goal.returns-then-at-end
returns-then-at-end g c =
    written_on c.args.start c.write_blocks-at.result c.args.end c.args.value c.args.places.now c.write_blocks-at.new.places c.write_places.new.places c.write_blocks-at.ensures.from c.write_blocks-at.ensures.written c.write_places.ensures

pub returns-else-at-end : goal.returns-else-at-end
returns-else-at-end g c =
    written_less c.args.start c.write_blocks-at.result c.args.end c.args.value c.args.places.now c.write_blocks-at.new.places (omega arith) c.write_blocks-at.ensures.written
