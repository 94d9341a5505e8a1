use Rattle.std.proofs.Common.{◌≤◌, ◌-◌}
use Rattle.mw_tile.specs.mw_pixel_words.Packed.{bit_of}
use Rattle.mw_tile_pieces.specs.Blocks.{IsPasted}
use Rattle.mw_tile_pieces.proofs.Pasted.{leftmost}
use Rattle.mw_tile_pieces.proofs.bits.copy_block.Given as goal

abbrev pub invariant-parts : goal.invariant-parts
invariant-parts l = record {
  to : l.done ≤ l.block.width;
  pasted : IsPasted (leftmost l.block l.done) (bit_of l.initial.out) (bit_of l.out) (bit_of l.from);
}

abbrev pub decreases-parts : goal.decreases-parts
decreases-parts l = l.block.width - l.done
