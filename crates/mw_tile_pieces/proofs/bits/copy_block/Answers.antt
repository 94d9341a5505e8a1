use Rattle.std.proofs.Common.{arith}
use Rattle.mw_tile.specs.mw_pixel_words.Packed.{bit_of}
use Rattle.mw_tile_pieces.proofs.Pasted.{pasted_all_columns, pasted_right}
use Rattle.mw_tile_pieces.proofs.bits.copy_block.Goals as goal

pub parts-preserved : goal.parts-preserved
parts-preserved c =
    let to = c.parts.invariant.to in
    let across = c.requires.fits.across in
    let first = c.min.ensures in
    let second = c.min-width.ensures in
    record {
      to = omega arith;
      pasted = pasted_right c.args.block c.parts.done c.min-width.result (bit_of c.args.out.now) (bit_of c.parts.out) (bit_of c.copy_in_words.new.out) (bit_of c.args.from.now) (omega arith) c.copy_in_words.ensures c.parts.invariant.pasted;
    }

pub returns : goal.returns
returns c = pasted_all_columns c.args.block c.parts.done _ _ _ (omega arith) c.parts.invariant.pasted
