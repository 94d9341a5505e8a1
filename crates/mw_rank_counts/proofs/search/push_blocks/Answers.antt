use Rattle.std.proofs.Common.{arith}
use Rattle.mw_rank_counts.proofs.Seeking.{blocks_more}
use Rattle.mw_rank_counts.proofs.search.push_blocks.Goals as goal

pub loop-done-preserved : goal.loop-done-preserved
loop-done-preserved g c = record {
  within = omega (arith, c.min-from.ensures, c.requires.wide);
  room = c.in_ok-push_block.ensures.room;
  row = blocks_more g.P.Pixel.level g.P.Pixel.TOP c.args.samples.now c.args.places.now c.args.search.k c.loop-done.done c.min-from.result c.args.out.now.items c.loop-done.out.items c.push_block.new.out.items (omega (arith, c.min-from.ensures)) (omega (arith, c.min-from.ensures, c.requires.wide))
      c.in_ok-push_block.ensures.row c.loop-done.invariant.row;
}
