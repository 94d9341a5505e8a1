use Rattle.std.proofs.Common.{ℕ, ◌+◌, ◌-◌, ◌%◌, arith, length-take}
use Rattle.std.specs.Int.{w16}
use Rattle.mw_rank_counts.proofs.Lanes.{raised_lane, of_16}
use Rattle.mw_rank_counts.proofs.counted_16.U16Counted.raise.Goals as goal

pub counts_up_to-counts-requires-clause-lanes : goal.counts_up_to-counts-requires-clause-lanes
counts_up_to-counts-requires-clause-lanes c = omega (arith, length-take 32 c.args.found.now)

pub returns : goal.returns
returns c =
    raised_lane w16 (λ (x y : ℕ). (x + y) % 65536) (λ (x y : ℕ). (x + (65536 - y)) % 65536) 65535 c.args.step c.args.n c.args.samples.now c.args.places.now c.args.found.now c.counts_up_to-counts.result of_16 c.requires.some c.requires.rank c.requires.whole c.requires.inside c.type_inv.samples
    c.counts_up_to-counts.ensures.size c.counts_up_to-counts.ensures.counts
