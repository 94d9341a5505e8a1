use Rattle.std.proofs.Common.{◌≡◌, ◌+◌, ◌-◌, length, arith}
use Rattle.mw_geodesic_distances.specs.Rows.{distance_at}
use Rattle.mw_geodesic_distances.proofs.Heights.{earlier}
use Rattle.mw_geodesic_distances.proofs.Envelopes.{is_met, written, envelope_past, envelope_more}
use Rattle.mw_geodesic_distances.proofs.envelope.add.Goals as goal

pub meeting-start-requires-clause-below : goal.meeting-start-requires-clause-below
meeting-start-requires-clause-below c =
    let gaps = distance_at c.args.gaps.now in
    let sites = distance_at c.args.sites.now in
    let starts = distance_at c.args.starts.now in
    let j = c.kept-k.result - 1 in
    let few = c.kept-k.ensures.cut.few in
    let next : j + 1 ≡ c.kept-k.result = omega arith in
    earlier gaps 0 (starts j) (sites j) c.args.u (omega arith) (c.requires.envelope.site j (omega arith)) (c.kept-k.ensures.stays j next)

pub returns-then-start-gaps : goal.returns-then-start-gaps
returns-then-start-gaps c =
    let gaps = distance_at c.args.gaps.now in
    let n = length c.args.gaps.now in
    let sites = distance_at c.args.sites.now in
    let starts = distance_at c.args.starts.now in
    let k = c.kept-k.result in
    let next : k - 1 + 1 ≡ k = omega arith in
    let met = is_met gaps n c.args.u c.args.count (k - 1) k c.meeting-start.result sites starts next c.requires.within c.if-gaps-u-ge-FAR.false c.requires.envelope c.kept-k.ensures.cut (c.kept-k.ensures.stays (k - 1) next) c.meeting-start.ensures in
    envelope_past gaps n c.args.u c.args.count (k - 1) k c.meeting-start.result sites starts c.if-start-gaps.true met

pub returns : goal.returns
returns c =
    let gaps = distance_at c.args.gaps.now in
    let n = length c.args.gaps.now in
    let sites = distance_at c.args.sites.now in
    let starts = distance_at c.args.starts.now in
    let k = c.kept-k.result in
    let w = c.meeting-start.result in
    let next : k - 1 + 1 ≡ k = omega arith in
    let few = c.kept-k.ensures.cut.few in
    let all = c.requires.envelope.few in
    let met = is_met gaps n c.args.u c.args.count (k - 1) k w sites starts next c.requires.within c.if-gaps-u-ge-FAR.false c.requires.envelope c.kept-k.ensures.cut (c.kept-k.ensures.stays (k - 1) next) c.meeting-start.ensures in
    envelope_more gaps n c.args.u c.args.count (k - 1) k w sites starts _ _ c.if-start-gaps.false met
    (written k c.args.u c.args.sites.now (omega (arith, c.requires.sites))) (written k w c.args.starts.now (omega (arith, c.requires.starts)))
