use Rattle.mw_netpbm.specs.Rasters.{two_byte_samples}
use Rattle.mw_netpbm.proofs.Chunks.{words_block}
use Rattle.mw_netpbm.proofs.raw.words.Goals as goal

pub by_block-preserved : goal.by_block-preserved
by_block-preserved c = words_block c.by_block.out.items c.extend_from_slice.new.self.items c.words_in.result c.by_block.rest.now c.split_at.result.0.now c.split_at.result.1.now (two_byte_samples c.args.bytes.now) c.by_block-test.true c.split_at.ensures.front c.split_at.ensures.back c.words_in.ensures c.by_block.invariant c.in_ok-extend_from_slice.ensures.items
