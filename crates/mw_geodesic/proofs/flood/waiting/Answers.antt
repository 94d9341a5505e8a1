use Rattle.std.proofs.Common.{arith, refl}
use Rattle.mw_geodesic.specs.declared.neighbours.Place.{Place}
use Rattle.mw_geodesic.proofs.Raised.{told_on, told_row, told_rows, all_told, still_inside}
use Rattle.mw_geodesic.proofs.flood.waiting.Goals as goal

pub loop-x-preserved : goal.loop-x-preserved
loop-x-preserved c =
    let q : Place = record { x = c.loop-x.x; y = c.loop-y.y } in
    let e = c.args.element.now in
    let old = c.loop-x.queue.items in
    let new = c.wait_if_needed.new.queue.items in
    let queued = c.in_ok-wait_if_needed.ensures in
    record {
      inside = still_inside _ c.width-width.result c.height-height.result old q new (omega arith) (omega arith) queued c.loop-x.invariant.inside;
      rows = λ u v p p'. told_on e c.args.mask.now c.args.canvas.now old q new u v queued (c.loop-x.invariant.rows u v p p');
      row = told_row e c.args.mask.now c.args.canvas.now old q new c.loop-x.x c.loop-y.y refl refl queued c.loop-x.invariant.row;
    }

pub loop-y-preserved : goal.loop-y-preserved
loop-y-preserved c = record {
  inside = c.loop-x.invariant.inside;
  rows = told_rows c.args.element.now c.args.mask.now c.args.canvas.now c.loop-x.queue.items c.width-width.result c.loop-x.x c.loop-y.y (omega arith) c.loop-x.invariant.rows c.loop-x.invariant.row;
}

pub returns : goal.returns
returns c =
    all_told c.args.element.now c.args.mask.now c.args.canvas.now c.loop-y.queue.items c.width-width.result c.height-height.result c.loop-y.y c.width-width.ensures c.height-height.ensures (omega arith)
    c.loop-y.invariant.inside c.loop-y.invariant.rows
