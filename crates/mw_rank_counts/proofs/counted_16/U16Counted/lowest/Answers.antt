use Rattle.std.proofs.Common.{ℕ, ◌+◌, ◌-◌, ◌%◌, refl}
use Rattle.std.specs.Int.{w16}
use Rattle.mw_rank_counts.proofs.Lanes.{seen_none, seen_more, seen_all, of_16}
use Rattle.mw_rank_counts.proofs.counted_16.U16Counted.lowest.Goals as goal

pub loop-place-init : goal.loop-place-init
loop-place-init c = seen_none 65535 65535 c.args.samples.now c.args.places.now

pub loop-place-preserved : goal.loop-place-preserved
loop-place-preserved c = seen_more w16 65535 c.args.samples.now c.args.places.now c.loop-place.low c.loop-place.high c.loop-place.place-index c.loop-place-test.true c.requires.inside c.loop-place.invariant

pub returns : goal.returns
returns c =
    seen_all w16 (λ (x y : ℕ). (x + y) % 65536) (λ (x y : ℕ). (x + (65536 - y)) % 65536) 65535 c.loop-place.place-index _ c.args.samples.now c.args.places.now c.args.found.now c.loop-place.low c.loop-place.high of_16 c.loop-place-test.false c.requires.whole c.loop-place.auto.high.1 refl
    c.loop-place.invariant
