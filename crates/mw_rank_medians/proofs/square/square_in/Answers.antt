use Rattle.std.proofs.Common.{ℕ, ◌+◌, ◌*◌, ap, arith}
use Rattle.mw_model.specs.declared.offsets.Rect.{Rect}
use Rattle.mw_rank_medians.proofs.Squares.{square_shown}
use Rattle.mw_rank_medians.proofs.square.square_in.Goals as goal

pub returns-in-Some-column_in : goal.returns-in-Some-column_in
returns-in-Some-column_in g c =
    let w = c.args.window.now in
    let width = ap (λ (t : Rect). t.width) c.place-place.ensures.value in
    let height = ap (λ (t : Rect). t.height) c.place-place.ensures.value in
    let x-is = ap (λ (t : Rect). t.x) c.place-place.ensures.value in
    let y-is = ap (λ (t : Rect). t.y) c.place-place.ensures.value in
    let column = c.in-Some-column_in.ensures in
    let row = c.in-Some.ensures in
    square_shown g.P.Pixel.level g.P.Pixel.TOP w c.args.first c.args.x c.args.y c.args.count c.in-Some-column_in.column c.in-Some.row _ c.args.side c.samples-samples.ensures.size (omega (arith, height, row.1)) (omega (arith, width, column.1)) (rw (← x-is) column.0) (rw (← y-is) row.0)
    (ap (λ (n : ℕ). c.in-Some.row * n + c.in-Some-column_in.column) width)
