use Rattle.std.proofs.Common.{◌≡◌, ℕ, ◌/◌, length, subst, arith}
use Rattle.mw_rank_bits.specs.Numbers.{three_digits, HasAdded}
use Rattle.mw_rank_bits.proofs.Carries.{carried_on, carried_all}
use Rattle.mw_rank_bits.proofs.counter.add.Goals as goal

pub carry-preserved : goal.carry-preserved
carry-preserved g c =
    carried_on g.W.Way.seen c.carry.i (three_digits c.args.digits) c.carry.carry.words c.all_or_none-none.result.words c.step_plane-carry-in-carry.result.words c.args.planes.now c.carry.planes c.step_plane-carry-in-carry.new.planes c.carry.invariant
    c.all_or_none-none.ensures c.step_plane-carry-in-carry.ensures.digit c.step_plane-carry-in-carry.ensures.others

pub returns : goal.returns
returns g c =
    let n = length c.args.planes.now / 2 in
    let end : c.carry.i ≡ n = omega arith in
    subst (λ (t : ℕ). HasAdded g.W.Way.seen t (three_digits c.args.digits) c.args.planes.now c.carry.planes) end
    (carried_all g.W.Way.seen c.carry.i (three_digits c.args.digits) c.carry.carry.words c.args.planes.now c.carry.planes c.carry.invariant)
