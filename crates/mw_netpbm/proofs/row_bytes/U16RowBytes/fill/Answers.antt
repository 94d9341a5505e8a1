use Rattle.std.proofs.Common.{ap, length, arith}
use Rattle.mw_netpbm.proofs.RowTexts.{words_length}
use Rattle.mw_netpbm.proofs.row_bytes.U16RowBytes.fill.Goals as goal

pub push_words-requires : goal.push_words-requires
push_words-requires c =
    let room = c.requires.room in
    let same = ap length c.samples.ensures.value in
    omega (arith, words_length c.args.row.now.cells, c.clear.ensures.len, c.clear.ensures.capacity)
