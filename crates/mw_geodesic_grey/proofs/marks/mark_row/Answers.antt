use Rattle.std.proofs.Common.{ℕ, arith}
use Rattle.mw_geodesic_grey.specs.Places.{over_mark}
use Rattle.mw_geodesic_levels.specs.Levels.{level_numbered}
use Rattle.mw_geodesic_grey.proofs.Marked.{mark_is, mark_more}
use Rattle.mw_geodesic_grey.proofs.marks.mark_row.Goals as goal

pub loop-x-preserved : goal.loop-x-preserved
loop-x-preserved g c =
    let level = g.P.Pixel.level in
    let upper = c.args.upper.now in
    let lower = c.args.lower.now in
    let x = c.loop-x.x in
    let here = mark_is level upper lower x c.value-in-loop-x.result c.value.result c.new.result c.index-upper-x.result c.index-lower-x.result (omega arith) (omega arith) c.index-upper-x.is c.index-lower-x.is
    c.value-in-loop-x.ensures.level c.value.ensures.level c.new.ensures in
    mark_more (λ (k : ℕ). over_mark (level_numbered level upper k) (level_numbered level lower k)) x c.loop-x.line c.new.result (omega arith) here c.loop-x.invariant

pub returns : goal.returns
returns g c = λ x lt. c.loop-x.invariant x (omega arith)
