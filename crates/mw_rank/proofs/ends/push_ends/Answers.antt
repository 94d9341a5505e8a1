use Rattle.std.proofs.Common.{◌+◌, ◌*◌, ap, arith}
use Rattle.mw_model.specs.declared.offsets.Rect.{Rect}
use Rattle.mw_rank.proofs.Edges.{no_ends, one_end}
use Rattle.mw_rank.proofs.ends.push_ends.Goals as goal

pub returns-in-None : goal.returns-in-None
returns-in-None g c = λ _. no_ends g.P.Pixel.level g.P.Pixel.TOP c.args.window.now c.args.run c.args.x c.args.y c.args.count c.args.ends.now.items c.in-None.ensures

pub returns-in_ok-push-in-Some-column_in : goal.returns-in_ok-push-in-Some-column_in
returns-in_ok-push-in-Some-column_in g c = λ _.
    let width = ap (λ (t : Rect). t.width) c.place-place.ensures.value in
    let x-is = ap (λ (t : Rect). t.x) c.place-place.ensures.value in
    let column = c.in-Some-column_in.ensures in
    let row = c.in-Some.ensures in
    one_end g.P.Pixel.level g.P.Pixel.TOP c.args.window.now c.args.run c.args.x c.args.y c.args.count c.in-Some-column_in.column c.in-Some.row c.args.ends.now.items c.push.new.self.items _ c.samples-samples.ensures.size
    row.0 (omega (arith, width, column.1)) (rw (← x-is) column.0) row.1 (ap (λ (t : _). c.in-Some.row * t + c.in-Some-column_in.column) width) (omega arith) c.in_ok-push-in-Some-column_in.ensures.items
