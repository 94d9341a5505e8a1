use Rattle.mw_tile.specs.mw_pixel_words.Packed.{bit_of}
use Rattle.mw_tile_pieces.specs.Blocks.{IsPasted}
use Rattle.mw_tile_pieces.proofs.Pasted.{upper}
use Rattle.mw_tile_pieces.proofs.bits.copy_in_words.Given as goal

abbrev pub invariant-loop-y : goal.invariant-loop-y
invariant-loop-y l = IsPasted (upper l.block l.y) (bit_of l.initial.out) (bit_of l.out) (bit_of l.from)
