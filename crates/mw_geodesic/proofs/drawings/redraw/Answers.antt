use Rattle.std.proofs.Common.{◌<◌, ◌+◌, ◌∙◌, sym, subst, arith}
use Rattle.mw_model.specs.Pictures.{Picture}
use Rattle.mw_geodesic.proofs.DrawnSamples.{IsDrawnTo, drawing_begins, drawn_on, row_drawn, all_drawn}
use Rattle.mw_geodesic.proofs.drawings.redraw.Goals as goal

pub loop-y-init : goal.loop-y-init
loop-y-init g c = drawing_begins (g.D.Drawing.value c.args.drawing.now) c.args.like.now c.in_ok-canvas.canvas c.in_ok-canvas.ensures.is c.in_ok-canvas.ensures.picture

pub set-requires-clause-column : goal.set-requires-clause-column
set-requires-clause-column g c = omega (arith, c.width-width.ensures.is, c.loop-x.invariant.shape.width)

pub set-requires-clause-row : goal.set-requires-clause-row
set-requires-clause-row g c = omega (arith, c.height-height.ensures.is, c.loop-x.invariant.shape.height)

pub set-requires-clause-bounded : goal.set-requires-clause-bounded
set-requires-clause-bounded g c =
    let low = c.requires.bounded c.width-width.ensures.small.picture c.loop-x.x c.loop-y.y (omega (arith, c.width-width.ensures.is)) (omega (arith, c.height-height.ensures.is)) in
    omega (arith, c.at.ensures, c.loop-x.invariant.shape.maxval)

pub loop-x-preserved : goal.loop-x-preserved
loop-x-preserved g c =
    let value = g.D.Drawing.value c.args.drawing.now in
    let f = c.args.like.now in
    let across : c.loop-x.x < f.width = omega (arith, c.width-width.ensures.is) in
    let down : c.loop-y.y < f.height = omega (arith, c.height-height.ensures.is) in
    let low = c.requires.bounded c.width-width.ensures.small.picture c.loop-x.x c.loop-y.y across down in
    subst (λ (t : Picture). IsDrawnTo value f t c.loop-y.y (c.loop-x.x + 1)) (sym c.set.ensures)
    (drawn_on value f c.loop-x.canvas c.loop-y.y c.loop-x.x c.at.result across down (omega (arith, c.at.ensures, c.loop-x.invariant.shape.maxval)) c.at.ensures c.loop-x.invariant)

pub loop-y-preserved : goal.loop-y-preserved
loop-y-preserved g c =
    row_drawn (g.D.Drawing.value c.args.drawing.now) c.args.like.now c.loop-x.canvas c.loop-y.y c.loop-x.x (omega (arith, c.width-width.ensures.is)) c.loop-x.invariant

pub returns : goal.returns
returns g c =
    c.into_image.ensures ∙ all_drawn (g.D.Drawing.value c.args.drawing.now) c.args.like.now c.loop-y.canvas c.loop-y.y (omega (arith, c.height-height.ensures.is)) c.loop-y.invariant
