use Rattle.std.proofs.Common.{cond, refl, ◌*◌}
use Rattle.mw_tile.specs.mw_pixel_words.Packed.{stride_of}
use Rattle.mw_tile_pieces.proofs.Laid.{apart_laid, bits_fit_in, words_of_plane}
use Rattle.mw_tile_pieces.proofs.Only.{only_laid}
use Rattle.mw_tile_pieces.proofs.uniform.is_only_in_piece.Goals as goal

pub is_only_in_block-requires-clause-room : goal.is_only_in_block-requires-clause-room
is_only_in_block-requires-clause-room c =
    let words = words_of_plane c.args.piece.now c.plane.result.now c.words.result.now c.words-in-Some.result.now c.plane.ensures.value c.words.ensures.value c.words-in-Some.ensures.packed c.words-in-Some.ensures.samples in
    let fits = bits_fit_in c.args.place c.place.result c.args.piece.now c.in-Some.block (c.args.place.height * (64 * stride_of c.args.place.width)) c.words-in-Some.result.now c.place.ensures c.in-Some.ensures refl words in
    fits.other

pub returns-in-Some : goal.returns-in-Some
returns-in-Some c = λ yes.
    let words = words_of_plane c.args.piece.now c.plane.result.now c.words.result.now c.words-in-Some.result.now c.plane.ensures.value c.words.ensures.value c.words-in-Some.ensures.packed c.words-in-Some.ensures.samples in
    only_laid c.args.place c.place.result c.args.piece.now c.in-Some.block (cond c.args.is_set 1 0) c.words-in-Some.result.now c.place.ensures c.in-Some.ensures words (c.is_only_in_block.ensures yes)

pub returns-in-None : goal.returns-in-None
returns-in-None c = λ yes. apart_laid c.args.place c.place.result c.args.piece.now _ c.place.ensures c.in-None.ensures
