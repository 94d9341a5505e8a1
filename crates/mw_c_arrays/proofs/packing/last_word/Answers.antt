use Rattle.std.proofs.Common.{length, replicate, refl, ap, sym, arith, ◌∙◌}
use Rattle.mw_bits_rows.proofs.Packs.{rest_of_block}
use Rattle.mw_c_arrays.proofs.Marked.{one_of, pixel_is}
use Rattle.mw_c_arrays.proofs.packing.last_word.Goals as goal
use borrow.Rule.Slice.PartMut.{put_mid}

pub returns : goal.returns
returns c = λ i lt.
    let bytes = c.args.bytes.now in
    let block = put_mid 0 (length bytes) (replicate 64 0) c.copy_from_slice.new.self in
    c.at_least.ensures i lt
    ∙ pixel_is block i
    ∙ ap one_of (rest_of_block 0 bytes c.copy_from_slice.new.self (length bytes) i refl c.requires c.copy_from_slice.ensures.after (omega arith) lt)
    ∙ sym (pixel_is bytes i)
