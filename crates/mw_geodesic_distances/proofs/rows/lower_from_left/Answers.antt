use Rattle.std.proofs.Common.{◌≡◌, ◌+◌, ◌-◌, ◌<◌, ℕ, min, length, refl, ap, arith, ◌∙◌}
use Rattle.mw_geodesic_distances.specs.Rows.{distance_at}
use Rattle.mw_geodesic_distances.proofs.Lists.{made_none, made_more}
use Rattle.mw_geodesic_distances.proofs.rows.lower_from_left.Goals as goal

pub loop-x-init : goal.loop-x-init
loop-x-init c = made_none 1 (λ k. min (distance_at c.args.row.now k) (distance_at c.args.other.now (k - 1) + 1)) (distance_at c.args.row.now)

pub loop-x-preserved : goal.loop-x-preserved
loop-x-preserved c =
    let x = c.loop-x.x in
    let row = c.loop-x.row in
    let known = c.loop-x.invariant in
    let lt : x < length row = omega arith in
    let stood = known.rest x (omega arith) in
    made_more 1 x (x + 1) c.lesser.result (λ k. min (distance_at c.args.row.now k) (distance_at c.args.other.now (k - 1) + 1)) (distance_at c.args.row.now) row refl (omega arith) lt (omega (arith, c.lesser.ensures)) known

pub returns : goal.returns
returns c = record {
  first = c.loop-x.invariant.before 0 (omega arith);
  along = λ u x next lt.
      let same : x - 1 ≡ u = omega arith in
      c.loop-x.invariant.done x (omega arith) (omega arith) ∙ ap (λ (t : ℕ). min (distance_at c.args.row.now x) (distance_at c.args.other.now t + 1)) same;
}
