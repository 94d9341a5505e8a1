use Rattle.std.proofs.Common.{ℕ, ◌+◌, ◌-◌, ◌%◌, arith, length-take}
use Rattle.std.specs.Int.{w8}
use Rattle.mw_rank_counts.proofs.Lanes.{raised_lane, of_8}
use Rattle.mw_rank_counts.proofs.counted_8.U8Counted.raise.Goals as goal

pub counts_up_to-counts-requires-clause-lanes : goal.counts_up_to-counts-requires-clause-lanes
counts_up_to-counts-requires-clause-lanes c = omega (arith, length-take 32 c.args.found.now)

pub returns : goal.returns
returns c =
    raised_lane w8 (λ (x y : ℕ). (x + y) % 256) (λ (x y : ℕ). (x + (256 - y)) % 256) 255 c.args.step c.args.n c.args.samples.now c.args.places.now c.args.found.now c.counts_up_to-counts.result of_8 c.requires.some c.requires.rank c.requires.whole c.requires.inside c.type_inv.samples
    c.counts_up_to-counts.ensures.size c.counts_up_to-counts.ensures.counts
