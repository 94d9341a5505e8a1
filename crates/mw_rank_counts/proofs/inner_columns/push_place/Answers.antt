use Rattle.std.proofs.Common.{◌≡◌, ℤ, pos, ◌+ℤ◌, ◌-ℤ◌, ◌+◌, ◌*◌, None, ap, arith, subst}
use Rattle.mw_model.specs.Rasters.{raster, cell_at}
use Rattle.mw_model.specs.declared.offsets.Rect.{Rect}
use Rattle.mw_rank.specs.mw_element_runs.declared.runs.Run.{Run}
use Rattle.mw_rank_counts.proofs.Standing.{no_place, one_place}
use Rattle.mw_rank_counts.proofs.inner_columns.push_place.Goals as goal

pub returns-in-None : goal.returns-in-None
returns-in-None g c = λ _.
    let w = c.args.window.now in
    no_place g.P.Pixel.level g.P.Pixel.TOP w c.args.offset c.args.x c.args.y c.args.count c.args.places.now.items
    (subst (λ (r : Run). (column : ℤ) → cell_at (raster w.place.width w.place.height w.cells) column (pos c.args.y +ℤ r.dy -ℤ pos w.place.y) ≡ None) c.lone-run.ensures c.in-None.ensures)

pub returns-in_ok-push-in-Some-column_in : goal.returns-in_ok-push-in-Some-column_in
returns-in_ok-push-in-Some-column_in g c = λ _.
    let w = c.args.window.now in
    let width = ap (λ (t : Rect). t.width) c.place-place.ensures.value in
    let x-is = ap (λ (t : Rect). t.x) c.place-place.ensures.value in
    let column = c.in-Some-column_in.ensures in
    let row = c.in-Some.ensures in
    one_place g.P.Pixel.level g.P.Pixel.TOP w c.args.offset c.args.x c.args.y c.args.count c.in-Some-column_in.column c.in-Some.row _ c.args.places.now.items c.push.new.self.items c.samples-samples.ensures.size row.0 (omega (arith, width, column.1)) (rw (← x-is) column.0)
    (subst (λ (r : Run). pos c.args.y +ℤ r.dy -ℤ pos w.place.y ≡ pos c.in-Some.row) c.lone-run.ensures row.1) (ap (λ (t : _). c.in-Some.row * t + c.in-Some-column_in.column) width) c.in_ok-push-in-Some-column_in.ensures.items
