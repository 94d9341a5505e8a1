use Rattle.std.proofs.Common.{cond, arith}
use Rattle.mw_tile.specs.mw_pixel_words.Packed.{bit_of}
use Rattle.mw_tile_pieces.proofs.Only.{only_right}
use Rattle.mw_tile_pieces.proofs.uniform.is_only_in_block.Goals as goal

pub parts-preserved : goal.parts-preserved
parts-preserved c =
    let least = c.min-width.ensures in
    record {
      to = omega arith;
      only = only_right c.args.block c.parts.done c.min-width.result (bit_of c.args.from.now) (cond c.args.is_set 1 0) (c.is_only_in_words.ensures c.if-not-is_only_in_words.false) c.parts.invariant.only;
    }
