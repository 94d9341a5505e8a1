use Rattle.std.proofs.Common.{◌≡◌, ℕ, ◌+◌, ◌*◌, ◌<◌, take, fold}
use Rattle.mw_model.specs.Rasters.{seen_under}
use Rattle.mw_model.specs.Windows.{seen_at}
use Rattle.mw_offset.specs.mw_pixel_words.Packed.{bit_of}
use Rattle.mw_bits.proofs.kernel.combine_offsets.Given as goal

abbrev pub invariant-loop-offset : goal.invariant-loop-offset
invariant-loop-offset g l =
    (x y : ℕ) → x < 64 * l.stride → y < l.tile.height → bit_of l.out (y * (64 * l.stride) + x) ≡ fold g.E.Extremum.merge (bit_of l.initial.out (y * (64 * l.stride) + x)) (seen_under (seen_at l.set) (take l.offset-index l.offsets) (l.tile.x + x) (l.tile.y + y))
