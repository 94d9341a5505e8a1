use Rattle.std.proofs.Common.{ℕ, length, subst, arith}
use Rattle.mw_geodesic_distances.specs.Rows.{distance_at}
use Rattle.mw_geodesic_distances.specs.Envelopes.{IsEnvelope}
use Rattle.mw_geodesic_distances.proofs.Drawn.{nearest_none, drawn_none, drawn_more, part_of}
use Rattle.mw_geodesic_distances.proofs.envelope.draw.Goals as goal

pub loop-k-init : goal.loop-k-init
loop-k-init c =
    drawn_none (distance_at c.args.gaps.now) (length c.args.gaps.now) c.args.top c.args.count (distance_at c.args.sites.now) (distance_at c.args.starts.now) (distance_at c.args.row.now) c.if-count-eq0.false c.requires.envelope

pub loop-k-preserved : goal.loop-k-preserved
loop-k-preserved c =
    drawn_more (distance_at c.args.gaps.now) (length c.args.gaps.now) c.args.top c.args.count c.loop-k.k c.end_of-end.result (distance_at c.args.sites.now) (distance_at c.args.starts.now) (distance_at c.loop-k.row) (distance_at c.draw_part.new.row)
    c.requires.envelope c.loop-k-test.true c.end_of-end.ensures.next (λ le. let is = c.end_of-end.ensures.last le in omega (arith, c.requires.starts)) c.draw_part.ensures c.loop-k.invariant

pub draw_part-requires-clause-order : goal.draw_part-requires-clause-order
draw_part-requires-clause-order c =
    (part_of (distance_at c.args.gaps.now) (length c.args.gaps.now) c.args.count c.loop-k.k c.end_of-end.result (distance_at c.args.sites.now) (distance_at c.args.starts.now) c.requires.envelope c.loop-k-test.true c.end_of-end.ensures.next
    (λ le. let is = c.end_of-end.ensures.last le in omega (arith, c.requires.starts))).order

pub draw_part-requires-clause-room : goal.draw_part-requires-clause-room
draw_part-requires-clause-room c =
    let part = part_of (distance_at c.args.gaps.now) (length c.args.gaps.now) c.args.count c.loop-k.k c.end_of-end.result (distance_at c.args.sites.now) (distance_at c.args.starts.now) c.requires.envelope c.loop-k-test.true c.end_of-end.ensures.next
    (λ le. let is = c.end_of-end.ensures.last le in omega (arith, c.requires.starts)) in
    let room = part.room in
    omega (arith, c.requires.row, c.loop-k.auto.row)

pub draw_part-requires-clause-site : goal.draw_part-requires-clause-site
draw_part-requires-clause-site c =
    let site = c.requires.envelope.site c.loop-k.k c.loop-k-test.true in
    omega (arith, c.requires.few)

pub draw_part-requires-clause-gap : goal.draw_part-requires-clause-gap
draw_part-requires-clause-gap c =
    let finite = c.requires.envelope.finite c.loop-k.k c.loop-k-test.true in
    omega arith

pub returns-then-count-eq0 : goal.returns-then-count-eq0
returns-then-count-eq0 c = λ x lt.
    nearest_none (distance_at c.args.gaps.now) (length c.args.gaps.now) c.args.top x (distance_at c.fill.new.row x) (distance_at c.args.sites.now) (distance_at c.args.starts.now)
    (subst (λ (t : ℕ). IsEnvelope (distance_at c.args.gaps.now) (length c.args.gaps.now) (length c.args.gaps.now) t (distance_at c.args.sites.now) (distance_at c.args.starts.now)) c.if-count-eq0.true c.requires.envelope) (c.fill.ensures x lt)

pub returns : goal.returns
returns c = λ x lt. c.loop-k.invariant x (omega (arith, c.requires.row)) (λ some. absurd (omega (arith, c.loop-k-test.false)))
