use Rattle.std.proofs.Common.{◌++◌, arith}
use Rattle.std.specs.List.{flat_map}
use Rattle.mw_model.specs.NetpbmWriting.{two_bytes}
use Rattle.mw_netpbm.proofs.Chunks.{bytes_block}
use Rattle.mw_netpbm.proofs.writer.push_words.Goals as goal

pub by_block-preserved : goal.by_block-preserved
by_block-preserved c =
    let so_far = c.by_block.invariant.count in
    record {
      made = bytes_block c.by_block.out.items c.append.new.out.items c.words_as_bytes.result c.by_block.rest.now c.split_at.result.0.now c.split_at.result.1.now (c.args.out.now.items ++ flat_map two_bytes c.args.samples.now) c.split_at.ensures.front c.split_at.ensures.back c.words_as_bytes.ensures c.by_block.invariant.made c.append.ensures.bytes;
      count = omega (arith, c.append.ensures.count, c.split_at.ensures.back_len);
      room = omega (arith, c.append.ensures.room, c.by_block.invariant.room);
    }
