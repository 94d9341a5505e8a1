use Rattle.std.proofs.Common.{pos, ◌+ℤ◌}
use Rattle.std.specs.Option.{unwrap_or}
use Rattle.mw_model.specs.Rasters.{raster, cell_at}
use Rattle.mw_line.proofs.Rows.{RowsDone}
use Rattle.mw_chord_lent.proofs.layout.lay_all.Given as goal

abbrev pub invariant-loop-y : goal.invariant-loop-y
invariant-loop-y g l =
    let w = l.lent in
    RowsDone (λ held x j. unwrap_or (cell_at (raster w.place.width w.place.height w.cells) (l.rows.column +ℤ pos x) (l.rows.row +ℤ pos j)) l.neutral) l.rows.wide l.rows.high l.y l.fn.out l.out
