use Rattle.std.proofs.Common.{◌≤◌, ◌++◌, ◌+◌, ◌/◌, length, arith}
use Rattle.mw_netpbm.specs.Rasters.{row_bits}
use Rattle.mw_netpbm_plain.specs.SetWords.{in_words}
use Rattle.mw_netpbm.proofs.Chunks.{set_block, no_more}
use Rattle.mw_netpbm.proofs.raw.push_row.Goals as goal

pub by_block-preserved : goal.by_block-preserved
by_block-preserved c =
    let enough : 64 ≤ length c.by_block.rest.now = omega (arith, c.by_block.invariant.long, c.by_block-test.true) in
    record {
      made = set_block c.by_block.out.items c.extend_from_slice.new.self.items c.pixels_in.result c.by_block.rest.now c.split_at.result.0.now c.split_at.result.1.now (c.args.out.now.items ++ in_words ((c.args.width + 63) / 64) (row_bits c.args.width c.args.row.now)) c.by_block.left enough c.by_block-test.true c.split_at.ensures.front c.split_at.ensures.back c.pixels_in.ensures c.by_block.invariant.made c.in_ok-extend_from_slice.ensures.items;
      long = omega (arith, c.by_block.invariant.long, c.split_at.ensures.back_len, c.by_block-test.true);
    }

pub returns-else-left-gt0 : goal.returns-else-left-gt0
returns-else-left-gt0 c = no_more c.by_block.out.items c.by_block.rest.now (c.args.out.now.items ++ in_words ((c.args.width + 63) / 64) (row_bits c.args.width c.args.row.now)) c.by_block.left c.if-left-gt0.false c.by_block.invariant.made
