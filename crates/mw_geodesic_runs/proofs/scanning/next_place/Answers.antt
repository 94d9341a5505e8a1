use Rattle.std.proofs.Common.{◌+◌, ◌*◌, arith, inl, inr}
use Rattle.std.proofs.lemmas.Bool.{cases_lt}
use Rattle.mw_geodesic_runs.proofs.LowBits.{IsTurned, row_none, row_found}
use Rattle.mw_geodesic_runs.proofs.scanning.next_place.Goals as goal

pub loop-k-init : goal.loop-k-init
loop-k-init c = record {
  low = omega arith;
  from = omega arith;
  none = λ x from to. absurd (omega arith);
}

pub loop-k-preserved : goal.loop-k-preserved
loop-k-preserved c =
    let words = c.args.words.now in
    let k = c.loop-k.k in
    let low = c.loop-k.low in
    let known = c.loop-k.invariant in
    let known_low = known.low in
    let known_from = known.from in
    let turns : IsTurned words c.args.wanted k c.turned.result = record { bits = c.turned.ensures } in
    record {
      low = omega arith;
      from = omega arith;
      none = λ x from to. elim (cases_lt x (64 * k + low)) [
        | inl before ↦ known.none x from before
        | inr here ↦ row_none words c.args.wanted k c.turned.result low c.lowest-place.result x turns c.lowest-place.ensures.within c.lowest-place.ensures.none here (omega arith)
      ];
    }

pub returns-then-place-lt64-clause-none : goal.returns-then-place-lt64-clause-none
returns-then-place-lt64-clause-none c =
    let words = c.args.words.now in
    let k = c.loop-k.k in
    let low = c.loop-k.low in
    let turns : IsTurned words c.args.wanted k c.turned.result = record { bits = c.turned.ensures } in
    λ x from to. elim (cases_lt x (64 * k + low)) [
      | inl before ↦ c.loop-k.invariant.none x from before
      | inr here ↦ row_none words c.args.wanted k c.turned.result low c.lowest-place.result x turns c.lowest-place.ensures.within c.lowest-place.ensures.none here (omega arith)
    ]

pub returns-then-place-lt64-clause-found : goal.returns-then-place-lt64-clause-found
returns-then-place-lt64-clause-found c =
    let turns : IsTurned c.args.words.now c.args.wanted c.loop-k.k c.turned.result = record { bits = c.turned.ensures } in
    λ lt. row_found c.args.words.now c.args.wanted c.loop-k.k c.turned.result c.lowest-place.result turns (omega arith) (c.lowest-place.ensures.found (omega arith))

pub returns-clause-none : goal.returns-clause-none
returns-clause-none c = λ x from to. c.loop-k.invariant.none x from (omega arith)
