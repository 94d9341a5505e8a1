use Rattle.std.proofs.Common.{pos, ◌+ℤ◌}
use Rattle.mw_model.specs.Rasters.{raster, cell_at}
use Rattle.mw_offset.specs.mw_lane.Shifted.{merge_at}
use Rattle.mw_offset.proofs.mw_pixel_words.Done.{BitRowsDone}
use Rattle.mw_bits.proofs.spread.spread_rows.Given as goal

abbrev pub invariant-loop-y : goal.invariant-loop-y
invariant-loop-y g l =
    let set = l.set in
    BitRowsDone (λ best x j. merge_at g.E.Extremum.merge best (cell_at (raster set.place.width set.place.height set.cells) (l.column +ℤ pos x) (l.row +ℤ pos j))) l.wide l.high l.y l.fn.out l.out
