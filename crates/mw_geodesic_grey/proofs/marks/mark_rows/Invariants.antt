use Rattle.std.proofs.Common.{◌≡◌, length}
use Rattle.mw_pixel.specs.mw_pixel_words.Packed.{stride_of}
use Rattle.mw_pixel.proofs.mw_pixel_words.Done.{BitRowsDone}
use Rattle.mw_geodesic_grey.proofs.Marked.{row_mark}
use Rattle.mw_geodesic_grey.proofs.marks.mark_rows.Given as goal

abbrev pub invariant-loop-y : goal.invariant-loop-y
invariant-loop-y g l = record {
  line_size : length l.line ≡ l.upper.width;
  rows : BitRowsDone (row_mark g.P.Pixel.level l.upper l.lower) (stride_of l.upper.width) l.upper.height l.y l.fn.out l.out;
}
