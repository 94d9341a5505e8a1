use Rattle.std.proofs.Common.{◌≡◌, ◌+◌, ◌*◌, ℕ, suc, subst, arith}
use Rattle.mw_geodesic.specs.Neighbours.{IsPlace}
use Rattle.mw_geodesic.proofs.Markings.{Scanned, scan_on, visited_few}
use Rattle.mw_geodesic.proofs.labels.scan.Goals as goal

pub loop-x-preserved : goal.loop-x-preserved
loop-x-preserved c =
    let e = c.args.element.now in
    let f = c.args.set.now in
    let place : IsPlace f c.loop-x.x c.loop-y.y = record { column = omega (arith, c.width-width.ensures.is); row = omega (arith, c.height-height.ensures.is) } in
    let next = scan_on e f c.loop-x.count c.loop-x.labels c.loop-x.x c.loop-y.y c.in_ok-count.count c.visit.new.labels place c.in_ok-count.ensures c.loop-x.invariant.scanned in
    let number : suc (c.loop-y.y * f.width + c.loop-x.x) ≡ c.loop-y.y * f.width + (c.loop-x.x + 1) = omega arith in
    let few = visited_few e f c.loop-x.x c.loop-y.y c.loop-x.count c.loop-x.labels c.in_ok-count.count c.visit.new.labels c.in_ok-count.ensures in
    record {
      scanned = subst (λ (i : ℕ). Scanned e f c.in_ok-count.count c.visit.new.labels i) number next;
      few = omega (arith, few, c.loop-x.invariant.few);
    }
