use Rattle.std.proofs.Common.{ℕ, List, ◌+◌, ◌-◌, ◌%◌, arith, subst}
use Rattle.std.specs.Int.{w8}
use Rattle.std.proofs.lemmas.List.{take_all}
use Rattle.mw_rank_counts.proofs.Lanes.{HasCounted, last_of, counted_none, counted_more, counted_up_to, of_8}
use Rattle.mw_rank_counts.proofs.counted_8.counts_up_to.Goals as goal

pub loop-place-init : goal.loop-place-init
loop-place-init c = counted_none 255 c.args.samples.now c.args.places.now (last_of w8 (λ (x y : ℕ). (x + y) % 256) (λ (x y : ℕ). (x + (256 - y)) % 256) 255 c.args.more c.args.levels)

pub loop-place-preserved : goal.loop-place-preserved
loop-place-preserved c =
    counted_more w8 (λ (x y : ℕ). (x + y) % 256) (λ (x y : ℕ). (x + (256 - y)) % 256) 255 c.args.samples.now c.args.places.now (last_of w8 (λ (x y : ℕ). (x + y) % 256) (λ (x y : ℕ). (x + (256 - y)) % 256) 255 c.args.more c.args.levels) c.loop-place.counts c.loop-place.place-index of_8 c.loop-place-test.true c.requires.few c.loop-place.auto.last.0 c.requires.inside c.loop-place.invariant

pub returns-clause-counts : goal.returns-clause-counts
returns-clause-counts c =
    counted_up_to w8 (λ (x y : ℕ). (x + y) % 256) (λ (x y : ℕ). (x + (256 - y)) % 256) 255 c.args.more c.args.samples.now c.args.places.now c.args.levels c.loop-place.counts of_8 c.requires.lanes c.fits-levels.1 c.requires.inside c.type_inv.samples
    (subst (λ (l : List ℕ). HasCounted 255 c.args.samples.now l (last_of w8 (λ (x y : ℕ). (x + y) % 256) (λ (x y : ℕ). (x + (256 - y)) % 256) 255 c.args.more c.args.levels) c.loop-place.counts) (take_all c.loop-place.place-index c.args.places.now (omega arith)) c.loop-place.invariant)
