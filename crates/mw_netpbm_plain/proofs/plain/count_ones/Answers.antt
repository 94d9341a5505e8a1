use Rattle.std.proofs.Common.{◌≡◌, ◌-◌, Ok, sym, ◌∙◌, arith, eqb}
use Rattle.std.proofs.lemmas.Result.{err_from_is_err_and}
use Rattle.mw_model.proofs.mw_facts.Numbers.{one_if-le}
use Rattle.mw_netpbm_plain.specs.Plain.{plain_at}
use Rattle.mw_netpbm_plain.specs.PlainSamples.{ones_of, place_in_text}
use Rattle.mw_netpbm_plain.proofs.PlainLoop.{one_counted, fault_counted, tail_counted, all_counted}
use Rattle.mw_netpbm_plain.proofs.plain.count_ones.Goals as goal

pub places-preserved : goal.places-preserved
places-preserved c =
    let h : place_in_text c.args.places (c.places.left - 1) c.places.rest.now ≡ Ok (c.in_ok-s.s, c.in_ok-s.after.now) = sym c.in_ok-s.ensures.value in
    record {
      value = rw c.one-ones.ensures (sym (one_counted (place_in_text c.args.places) c.places.left c.places.ones c.places.rest.now c.in_ok-s.after.now c.in_ok-s.s c.places-test.true h) ∙ c.places.invariant.value);
      low = omega (arith, c.places.invariant.low, c.places-test.true, one_if-le (eqb c.in_ok-s.s 1), c.one-ones.ensures);
    }

pub returns-in_err-s : goal.returns-in_err-s
returns-in_err-s c =
    let p = err_from_is_err_and c.from_residual.result c.from_residual.ensures.1 in
    rw (p.1, p.2) (fault_counted (place_in_text c.args.places) c.places.left c.places.ones c.places.rest.now c.in_err-s.field-0.0 (ones_of (plain_at (place_in_text c.args.places) c.args.count c.args.bytes.now)) c.places-test.true (sym c.in_err-s.ensures.value) c.places.invariant.value)

pub returns-in_err-tail : goal.returns-in_err-tail
returns-in_err-tail c =
    let p = err_from_is_err_and c.from_residual-in_err-tail.result c.from_residual-in_err-tail.ensures.1 in
    rw (p.1, p.2) (tail_counted (place_in_text c.args.places) c.places.left c.places.ones c.places.rest.now c.in_err-tail.field-0.0 (ones_of (plain_at (place_in_text c.args.places) c.args.count c.args.bytes.now)) c.places-test.false (sym c.in_err-tail.ensures) c.places.invariant.value)

pub returns : goal.returns
returns c = all_counted (place_in_text c.args.places) c.places.left c.places.ones c.places.rest.now (ones_of (plain_at (place_in_text c.args.places) c.args.count c.args.bytes.now)) c.places-test.false (sym c.in_ok-tail.ensures) c.places.invariant.value
