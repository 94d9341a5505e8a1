use Rattle.std.proofs.Common.{◌≤◌, ◌-◌, cond}
use Rattle.mw_tile.specs.mw_pixel_words.Packed.{bit_of}
use Rattle.mw_tile_pieces.specs.Blocks.{ReadsOnly}
use Rattle.mw_tile_pieces.proofs.Pasted.{leftmost}
use Rattle.mw_tile_pieces.proofs.uniform.is_only_in_block.Given as goal

abbrev pub invariant-parts : goal.invariant-parts
invariant-parts l = record {
  to : l.done ≤ l.block.width;
  only : ReadsOnly (leftmost l.block l.done) (bit_of l.from) (cond l.is_set 1 0);
}

abbrev pub decreases-parts : goal.decreases-parts
decreases-parts l = l.block.width - l.done
