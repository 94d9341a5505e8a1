use Rattle.std.proofs.Common.{◌≡◌, ◌+◌, ◌-◌, ◌<◌, ℕ, min, length, ap, arith, ◌∙◌}
use Rattle.mw_geodesic_distances.specs.Rows.{distance_at}
use Rattle.mw_geodesic_distances.proofs.Lists.{made_none, made_more}
use Rattle.mw_geodesic_distances.proofs.rows.lower_from_right.Goals as goal

pub loop-u-init : goal.loop-u-init
loop-u-init c = made_none 0 (λ k. min (distance_at c.args.row.now k) (distance_at c.args.other.now (k + 1) + 1)) (distance_at c.args.row.now)

pub loop-u-preserved : goal.loop-u-preserved
loop-u-preserved c =
    let u = c.loop-u.u in
    let row = c.loop-u.row in
    let known = c.loop-u.invariant in
    let lt : u - 1 < length row = omega arith in
    let stood = known.rest (u - 1) (omega arith) in
    let back : u - 1 + 1 ≡ u = omega arith in
    let next = ap (distance_at c.args.other.now) back in
    made_more 0 (u - 1) (u + 1 - 1) c.lesser.result (λ k. min (distance_at c.args.row.now k) (distance_at c.args.other.now (k + 1) + 1)) (distance_at c.args.row.now) row (omega arith) (omega arith) lt (omega (arith, c.lesser.ensures)) known

pub returns : goal.returns
returns c = record {
  last = λ x end. c.loop-u.invariant.rest x (omega arith);
  along = λ x u next lt.
      c.loop-u.invariant.done x (omega arith) (omega arith) ∙ ap (λ (t : ℕ). min (distance_at c.args.row.now x) (distance_at c.args.other.now t + 1)) next;
}
