use Rattle.mw_tile.specs.mw_pixel_words.Packed.{bit_of}
use Rattle.mw_tile_pieces.proofs.Laid.{apart_laid, bits_fit, bits_shown, laid_bits, laid_packed, words_of_plane}
use Rattle.mw_tile_pieces.proofs.bits.lay.Goals as goal

pub copy_block-requires-clause-fits : goal.copy_block-requires-clause-fits
copy_block-requires-clause-fits c =
    let words = words_of_plane c.args.piece.now c.plane.result.now c.words.result.now c.words-in-Some.result.now c.plane.ensures.value c.words.ensures.value c.words-in-Some.ensures.packed c.words-in-Some.ensures.samples in
    bits_fit c.args.place c.place.result c.args.piece.now c.in-Some.block c.args.out.now c.words-in-Some.result.now c.place.ensures c.in-Some.ensures c.requires.packed words

pub returns-in-Some-clause-packed : goal.returns-in-Some-clause-packed
returns-in-Some-clause-packed c =
    laid_packed c.args.place _ _ c.args.out.now c.copy_block.new.out c.words-in-Some.result.now c.copy_block.auto.out c.requires.packed
    (bits_shown c.args.place c.place.result c.args.piece.now c.in-Some.block (bit_of c.args.out.now) (bit_of c.copy_block.new.out) (bit_of c.words-in-Some.result.now) c.place.ensures c.in-Some.ensures c.copy_block.ensures)

pub returns-in-Some-clause-laid : goal.returns-in-Some-clause-laid
returns-in-Some-clause-laid c =
    let words = words_of_plane c.args.piece.now c.plane.result.now c.words.result.now c.words-in-Some.result.now c.plane.ensures.value c.words.ensures.value c.words-in-Some.ensures.packed c.words-in-Some.ensures.samples in
    laid_bits c.args.place c.args.piece.now c.args.out.now c.copy_block.new.out c.words-in-Some.result.now words.cells
    (bits_shown c.args.place c.place.result c.args.piece.now c.in-Some.block (bit_of c.args.out.now) (bit_of c.copy_block.new.out) (bit_of c.words-in-Some.result.now) c.place.ensures c.in-Some.ensures c.copy_block.ensures)

pub returns-in_default-clause-laid : goal.returns-in_default-clause-laid
returns-in_default-clause-laid c = apart_laid c.args.place c.place.result c.args.piece.now _ c.place.ensures c.in_default.ensures
