use Rattle.std.proofs.Common.{◌≡◌, ℕ, ◌+◌, ◌-◌, arith, subst}
use Rattle.mw_rank_counts.specs.Counting.{AreBetween}
use Rattle.mw_rank_counts.proofs.counted_16.U16Counted.narrow.Goals as goal

pub narrow_by_bytes-requires-clause-between : goal.narrow_by_bytes-requires-clause-between
narrow_by_bytes-requires-clause-between c =
    let left = c.loop-left.left in
    let rest = c.saturating_sub-rest.result in
    subst (λ (b : ℕ). AreBetween (λ (s : ℕ). s) 65535 c.args.samples.now c.args.places.now c.args.n b c.loop-left.found) (let e : left ≡ left - rest + rest = omega (arith, c.saturating_sub-rest.ensures) in e) c.loop-left.invariant.between
