use Rattle.std.proofs.Common.{◌+◌, ◌*◌, ◌+ℤ◌, pos, List, get_or, ap, ◌∙◌, arith}
use Rattle.std.specs.Option.{unwrap_or}
use Rattle.mw_model.proofs.mw_facts.Elements.{take-written, get_or-replicate_same}
use Rattle.mw_model.specs.Rasters.{raster, cell_at}
use Rattle.mw_line.proofs.spreading.spread.Goals as goal

pub returns-clause-cells : goal.returns-clause-cells
returns-clause-cells g c = λ x y less row_less.
    let w = c.args.window.now in
    let rows = c.args.rows in
    let n = c.args.neutral in
    let at = y * rows.wide + x in
    let seen = cell_at (raster w.place.width w.place.height w.cells) (rows.column +ℤ pos x) (rows.row +ℤ pos y) in
    ap (λ (t : List g.row.P.Denot). get_or t at n) (take-written c.in_ok-cells.cells.items c.copy_rows.new.out c.in_ok-cells.cells.len (omega arith))
    ∙ c.copy_rows.ensures x y n less row_less
    ∙ ap (λ (t : List g.row.P.Denot). unwrap_or seen (get_or t at n)) (c.as_mut_slice.ensures.value ∙ c.in_ok-cells.ensures)
    ∙ ap (λ (t : g.row.P.Denot). unwrap_or seen t) (get_or-replicate_same (rows.high * rows.wide + 63) at n)
