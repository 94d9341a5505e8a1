use Rattle.std.proofs.Common.{◌≡◌, ℕ, ◌+◌, ap, arith}
use Rattle.mw_rank.specs.Tallies.{count_under}
use Rattle.mw_rank.proofs.Counts.{count-zero}
use Rattle.mw_rank_medians.proofs.cut.halved.Goals as goal

pub halving-init : goal.halving-init
halving-init c = record {
  order = omega arith;
  small = omega (arith, c.from-end.ensures);
  few = omega (arith, count-zero c.args.levels.now, c.requires.some);
  enough = omega (arith, c.requires.within, ap (λ (t : ℕ). count_under (t + 1) c.args.levels.now) c.from-end.ensures);
}

pub returns-clause-enough : goal.returns-clause-enough
returns-clause-enough c =
    let order = c.halving.invariant.order in
    let closed = c.halving-test.false in
    omega (arith, c.halving.invariant.enough, ap (λ (t : ℕ). count_under t c.args.levels.now) (let e : c.halving.end ≡ c.halving.low + 1 = omega arith in e))
