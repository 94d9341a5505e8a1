use Rattle.std.proofs.Common.{ℕ, List, ◌+◌, ◌-◌, ◌%◌, arith, subst}
use Rattle.std.specs.Int.{w16}
use Rattle.std.proofs.lemmas.List.{take_all}
use Rattle.mw_rank_counts.proofs.Lanes.{HasCounted, last_of, counted_none, counted_more, counted_up_to, of_16}
use Rattle.mw_rank_counts.proofs.counted_16.counts_up_to.Goals as goal

pub loop-place-init : goal.loop-place-init
loop-place-init c = counted_none 65535 c.args.samples.now c.args.places.now (last_of w16 (λ (x y : ℕ). (x + y) % 65536) (λ (x y : ℕ). (x + (65536 - y)) % 65536) 65535 c.args.more c.args.levels)

pub loop-place-preserved : goal.loop-place-preserved
loop-place-preserved c =
    counted_more w16 (λ (x y : ℕ). (x + y) % 65536) (λ (x y : ℕ). (x + (65536 - y)) % 65536) 65535 c.args.samples.now c.args.places.now (last_of w16 (λ (x y : ℕ). (x + y) % 65536) (λ (x y : ℕ). (x + (65536 - y)) % 65536) 65535 c.args.more c.args.levels) c.loop-place.counts c.loop-place.place-index of_16 c.loop-place-test.true c.requires.few c.loop-place.auto.last.0 c.requires.inside c.loop-place.invariant

pub returns-clause-counts : goal.returns-clause-counts
returns-clause-counts c =
    counted_up_to w16 (λ (x y : ℕ). (x + y) % 65536) (λ (x y : ℕ). (x + (65536 - y)) % 65536) 65535 c.args.more c.args.samples.now c.args.places.now c.args.levels c.loop-place.counts of_16 c.requires.lanes c.fits-levels.1 c.requires.inside c.type_inv.samples
    (subst (λ (l : List ℕ). HasCounted 65535 c.args.samples.now l (last_of w16 (λ (x y : ℕ). (x + y) % 65536) (λ (x y : ℕ). (x + (65536 - y)) % 65536) 65535 c.args.more c.args.levels) c.loop-place.counts) (take_all c.loop-place.place-index c.args.places.now (omega arith)) c.loop-place.invariant)
