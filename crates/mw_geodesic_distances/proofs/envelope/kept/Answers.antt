use Rattle.std.proofs.Common.{◌≡◌, ◌+◌, ◌-◌, length, arith}
use Rattle.mw_geodesic_distances.specs.Rows.{distance_at}
use Rattle.mw_geodesic_distances.proofs.Envelopes.{cut_none, cut_more}
use Rattle.mw_geodesic_distances.proofs.envelope.kept.Goals as goal

pub parts-init : goal.parts-init
parts-init c = cut_none (distance_at c.args.gaps.now) (length c.args.gaps.now) c.args.u c.args.count (distance_at c.args.sites.now) (distance_at c.args.starts.now)

pub parts-preserved : goal.parts-preserved
parts-preserved c =
    let gaps = distance_at c.args.gaps.now in
    let sites = distance_at c.args.sites.now in
    let starts = distance_at c.args.starts.now in
    let j = c.parts.k - 1 in
    let next : j + 1 ≡ c.parts.k = omega arith in
    let below = c.is_below.ensures.0 c.if-not-is_below.false in
    cut_more gaps (length c.args.gaps.now) c.args.u c.args.count j c.parts.k sites starts next c.requires.envelope below c.parts.invariant
