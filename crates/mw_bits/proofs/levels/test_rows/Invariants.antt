use Rattle.std.proofs.Common.{◌≡◌, length, map}
use Rattle.mw_offset.specs.mw_pixel_words.Packed.{stride_of}
use Rattle.mw_offset.proofs.mw_pixel_words.Done.{BitRowsDone}
use Rattle.mw_bits_rows.proofs.Packs.{packed_row}
use Rattle.mw_bits.proofs.levels.test_rows.Given as goal

abbrev pub invariant-loop-y : goal.invariant-loop-y
invariant-loop-y g l =
    let w = l.window.place.width in
    record {
      line_size : length l.line ≡ w;
      rows : BitRowsDone (packed_row (map (λ s. g.T.LevelTest.is_in l.k (g.P.Pixel.level s)) l.window.cells) w) (stride_of w) l.window.place.height l.y l.fn.out l.out;
    }
