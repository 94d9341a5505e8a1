use Rattle.std.proofs.Common.{fold, max}
use Rattle.mw_netpbm.specs.Rasters.{two_byte_samples}
use Rattle.mw_netpbm.proofs.Lanes.{lanes_more}
use Rattle.mw_netpbm.proofs.raw.greatest16.Goals as goal

pub by_block-preserved : goal.by_block-preserved
by_block-preserved c = lanes_more c.by_block.lanes c.words_in.result c.by_block.rest.now c.split_at.result.0.now c.split_at.result.1.now (fold max 0 (two_byte_samples c.args.bytes.now)) c.by_block-test.true c.split_at.ensures.front c.split_at.ensures.back c.by_block.auto.lanes.0 c.words_in.ensures c.by_block.invariant
