use Rattle.std.proofs.Common.{◌-◌, map, sym, ◌∙◌, ap, arith}
use Rattle.mw_netpbm_plain.specs.PlainSamples.{place_in_text}
use Rattle.mw_netpbm_plain.specs.Plain.{plain_at}
use Rattle.mw_netpbm_plain.proofs.PlainLoop.{with_front, one_filled, fault_filled, tail_filled, all_filled}
use Rattle.mw_netpbm_plain.proofs.plain.fill.Goals as goal

pub places-preserved : goal.places-preserved
places-preserved g c =
    let level = g.P.Pixel.level in
    let place = place_in_text c.args.places in
    let total = plain_at place c.args.count c.args.bytes.now in
    let pushed = one_filled level place c.places.left c.places.rest.now c.in-Ok.after.now c.places.out.items c.in-Some.p c.in-Ok.s total c.places-test.true (sym c.in-Ok.ensures.value) c.in-Some.ensures.level c.places.invariant.made in
    record {
      made = ap (λ xs. with_front (map level xs) (plain_at place (c.places.left - 1) c.in-Ok.after.now)) c.push_reserved.ensures.items ∙ pushed;
      filled = omega (arith, c.push_reserved.ensures.len, c.places.invariant.filled);
      room = omega (arith, c.push_reserved.ensures.capacity, c.places.invariant.room);
    }

pub returns-in-Err-clause-value : goal.returns-in-Err-clause-value
returns-in-Err-clause-value g c = fault_filled (place_in_text c.args.places) c.places.left c.places.rest.now (map g.P.Pixel.level c.places.out.items) c.in-Err.fault (plain_at (place_in_text c.args.places) c.args.count c.args.bytes.now) c.places-test.true (sym c.in-Err.ensures.value) c.places.invariant.made

pub returns-in-Err-tail-clause-value : goal.returns-in-Err-tail-clause-value
returns-in-Err-tail-clause-value g c = tail_filled (place_in_text c.args.places) c.places.left c.places.rest.now (map g.P.Pixel.level c.places.out.items) c.in-Err-tail.fault (plain_at (place_in_text c.args.places) c.args.count c.args.bytes.now) c.places-test.false (sym c.in-Err-tail.ensures) c.places.invariant.made

pub returns-clause-value : goal.returns-clause-value
returns-clause-value g c = all_filled (place_in_text c.args.places) c.places.left c.places.rest.now (map g.P.Pixel.level c.places.out.items) (plain_at (place_in_text c.args.places) c.args.count c.args.bytes.now) c.places-test.false (sym c.in_default-tail.ensures) c.places.invariant.made
