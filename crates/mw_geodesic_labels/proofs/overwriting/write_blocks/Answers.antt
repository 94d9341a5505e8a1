use Rattle.std.proofs.Common.{◌+◌, arith}
use Rattle.mw_geodesic_labels.proofs.Overwritten.{written_none, written_on}
use Rattle.mw_geodesic_labels.proofs.overwriting.write_blocks.Goals as goal

pub forward-init : goal.forward-init
forward-init g c = record {
  from = omega arith;
  within = c.requires;
  written = written_none c.args.start c.args.start c.args.value c.args.places.now (omega arith);
}

pub forward-preserved : goal.forward-preserved
forward-preserved g c =
    let known = c.forward.invariant in
    let from = known.from in
    record {
      from = omega arith;
      within = omega arith;
      written = written_on c.args.start c.forward.at (c.forward.at + 8) c.args.value c.args.places.now c.forward.places c.write_block.new.places from known.written c.write_block.ensures;
    }
