use Rattle.std.proofs.Common.{◌≡◌, ◌+◌, ◌-◌, ◌*◌, ◌+ℤ◌, pos, length, replicate, vec_len}
use Rattle.mw_model.specs.Rasters.{raster, cell_at}
use Rattle.mw_lane.specs.Shifted.{merge_at}
use Rattle.mw_line.specs.Columns.{IsGrown}
use Rattle.mw_line.specs.Extrema.{over}
use Rattle.mw_line.proofs.rectangles.slide_rows.Given as goal

abbrev pub invariant-loop-y : goal.invariant-loop-y
invariant-loop-y g l =
    let w = l.window in
    let f = g.E.Extremum.merge in
    record {
      size : vec_len l.rows ≡ l.y * l.slide.width;
      made : (n : g.row.P.Denot) → l.blank ≡ replicate (length l.blank) n
          → IsGrown f (λ x j. over f (λ i. merge_at f n (cell_at (raster w.place.width w.place.height w.cells) (l.slide.column +ℤ pos (x + i)) (l.slide.row +ℤ pos j))) 0 (l.slide.across - 1)) n l.slide.width l.slide.down l.y l.rows.items;
    }
