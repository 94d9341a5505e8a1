use Rattle.std.proofs.Common.{arith}
use Rattle.mw_pixel.proofs.Same.{same_more}
use Rattle.mw_pixel.proofs.equal.equal_rows.Goals as goal

pub by_block-preserved : goal.by_block-preserved
by_block-preserved g c = record {
  within = omega arith;
  so_far = same_more c.by_block.at 64 _ c.args.a.now c.args.b.now (omega arith) c.by_block.invariant.so_far (c.equal_block.ensures.0 c.if-not-equal_block.false);
}
