use Rattle.std.proofs.Common.{◌+◌, ◌*◌, ◌+ℤ◌, pos, drop, ap, ◌∙◌, length-take, arith}
use Rattle.std.specs.Option.{unwrap_or}
use Rattle.std.proofs.lemmas.List.{get_or_append_left, get_or-take}
use Rattle.mw_model.specs.Rasters.{raster, cell_at}
use Rattle.mw_line.proofs.Rows.{row_within}
use Rattle.mw_line.proofs.spreading.copy_rows.Goals as goal

pub returns : goal.returns
returns g c = λ x y d less row_less.
    let w = c.args.window.now in
    let rows = c.args.rows in
    let at = y * rows.wide + x in
    let count = rows.high * rows.wide in
    let cells = c.args.out.now in
    let made = c.copy_all.new.out in
    let here = row_within x y rows.wide rows.high less row_less in
    let seen = cell_at (raster w.place.width w.place.height w.cells) (rows.column +ℤ pos x) (rows.row +ℤ pos y) in
    get_or_append_left made (drop count cells) d at (omega (arith, here, c.copy_all.auto.out, length-take count cells))
    ∙ c.copy_all.ensures x y d less row_less
    ∙ ap (λ (t : g.row.P.Denot). unwrap_or seen t) (get_or-take count cells at d here)
