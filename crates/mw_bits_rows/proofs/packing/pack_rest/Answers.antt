use Rattle.std.proofs.Common.{◌≡◌, length, get_or, replicate, ◌∙◌, arith}
use Rattle.std.specs.Int.{bit_at}
use Rattle.mw_bits_rows.proofs.Packs.{rest_of_block}
use Rattle.mw_bits_rows.proofs.packing.pack_rest.Goals as goal
use borrow.Rule.Slice.PartMut.{put_mid}

pub returns : goal.returns
returns c = λ i lt.
    let pixels = c.args.pixels.now in
    let block = put_mid 0 (length pixels) (replicate 64 c.new-block.result) c.copy_from_slice.new.self in
    let is : bit_at c.pack_block.result i ≡ get_or block i 0 = c.pack_block.ensures i lt in
    is ∙ rest_of_block c.new-block.result pixels c.copy_from_slice.new.self (length pixels) i c.new-block.ensures c.requires c.copy_from_slice.ensures.after (omega arith) lt
