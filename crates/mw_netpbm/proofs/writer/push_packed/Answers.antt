use Rattle.std.proofs.Common.{◌≤◌, ℕ, List, ◌++◌, ◌-◌, length, ap, ◌∙◌, arith}
use Rattle.std.specs.List.{flat_map}
use Rattle.mw_model.specs.NetpbmWriting.{packed}
use Rattle.mw_netpbm.specs.SetWords.{pixels_of}
use Rattle.mw_netpbm.proofs.Chunks.{packed_words}
use Rattle.mw_netpbm.proofs.SetRows.{rest_bytes}
use Rattle.mw_netpbm.proofs.writer.push_packed.Goals as goal

pub by_block-preserved : goal.by_block-preserved
by_block-preserved c =
    let enough : 8 ≤ length c.by_block.rest.now = omega (arith, c.by_block.invariant.long, c.by_block-test.true) in
    let so_far = c.by_block.invariant.count in
    record {
      made = packed_words c.by_block.out.items c.append.new.out.items c.pixels_as_bytes.result c.by_block.rest.now c.split_at.result.0.now c.split_at.result.1.now (c.args.out.now.items ++ packed c.args.count (flat_map pixels_of c.args.words.now)) c.by_block.left c.by_block-test.true enough c.split_at.ensures.front c.split_at.ensures.back c.pixels_as_bytes.ensures c.by_block.invariant.made c.append.ensures.bytes;
      long = omega (arith, c.by_block.invariant.long, c.split_at.ensures.back_len, c.by_block-test.true);
      count = omega (arith, c.append.ensures.count);
      room = omega (arith, c.append.ensures.room, c.by_block.invariant.room);
    }

pub returns-clause-bytes : goal.returns-clause-bytes
returns-clause-bytes c =
    let rest = c.by_block.rest.now in
    c.append-2.ensures.bytes
    ∙ ap (λ (bs : List ℕ). c.by_block.out.items ++ bs) (rest_bytes c.by_block.left (8 - length rest) rest c.eight_words.result c.pixels_as_bytes-bytes.result (omega arith) c.eight_words.ensures c.pixels_as_bytes-bytes.ensures)
    ∙ c.by_block.invariant.made
