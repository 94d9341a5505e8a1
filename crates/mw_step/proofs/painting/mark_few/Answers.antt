use Rattle.std.proofs.Common.{◌<◌, ℕ, length, w64, arith, subst, rules}
use Rattle.std.specs.Int.{trailing_zeros}
use Rattle.mw_step.proofs.Painted.{BitsLeft, all_left, lowest_left, one_less, none_left, left_within, smaller_left}
use Rattle.mw_step.proofs.painting.mark_few.Goals as goal

pub loop-left-init : goal.loop-left-init
loop-left-init g c = all_left c.args.v c.args.word c.args.acc.now

pub bounds-acc-place : goal.bounds-acc-place
bounds-acc-place g c =
    let left = c.loop-left.left in
    let lowest = lowest_left left c.loop-left-test.true c.loop-left.auto.left-fits in
    let within = left_within c.args.word left (trailing_zeros w64 left) (length c.args.acc.now) lowest.0 lowest.1 (c.loop-left.invariant.some (trailing_zeros w64 left) lowest.0) c.requires.clean in
    omega (arith, within)

pub offset_bounds-acc-place : goal.offset_bounds-acc-place
offset_bounds-acc-place g c =
    let within : trailing_zeros w64 c.loop-left.left < length c.loop-left.acc = bounds-acc-place g c in
    search rules

pub loop-left-smaller : goal.loop-left-smaller
loop-left-smaller g c =
    let left = c.loop-left.left in
    let lowest = lowest_left left c.loop-left-test.true c.loop-left.auto.left-fits in
    smaller_left left (trailing_zeros w64 left) lowest.0 lowest.1

pub loop-left-preserved : goal.loop-left-preserved
loop-left-preserved g c =
    let left = c.loop-left.left in
    let known = c.loop-left.invariant in
    let lowest = lowest_left left c.loop-left-test.true c.loop-left.auto.left-fits in
    let within : trailing_zeros w64 left < length c.loop-left.acc = bounds-acc-place g c in
    one_less c.args.v c.args.word left (trailing_zeros w64 left) c.args.acc.now c.loop-left.acc c.requires.short (omega arith) lowest.1 known

pub returns : goal.returns
returns g c =
    none_left c.args.v c.args.word c.args.acc.now c.loop-left.acc
    (subst (λ (t : ℕ). BitsLeft c.args.v c.args.word t c.args.acc.now c.loop-left.acc) c.loop-left-test.false c.loop-left.invariant)
