use Rattle.std.proofs.Common.{◌≡◌, ◌∙◌, ◌*◌, ◌-◌, ℕ, length, get_or, ap, subst, arith}
use Rattle.std.specs.Int.{bit_at}
use Rattle.std.proofs.lemmas.Nat.{ones-le}
use Rattle.mw_pixel.specs.mw_pixel_words.Packed.{bit_of}
use Rattle.mw_geodesic_runs.specs.Runs.{tally, begin_at}
use Rattle.mw_geodesic_runs.proofs.Tallies.{Begins, starts_more, last_more, left_small}
use Rattle.mw_geodesic_runs.proofs.runs.count_starts.Goals as goal

pub begin_bits-requires : goal.begin_bits-requires
begin_bits-requires c =
    let small = left_small c.args.words.now (64 * c.loop-k.k) in
    let last = c.loop-k.invariant.last in
    omega arith

pub loop-k-preserved : goal.loop-k-preserved
loop-k-preserved c =
    let words = c.args.words.now in
    let k = c.loop-k.k in
    let known = c.loop-k.invariant in
    let last = known.last in
    let few = known.few in
    let first = c.begin_bits.ensures.first in
    let are : Begins words k c.begin_bits.result = record { first = first ∙ ap (λ (t : ℕ). bit_at (get_or words k 0) 0 - t) last; others = c.begin_bits.ensures.others } in
    record {
      count = starts_more words k c.begin_bits.result c.loop-k.count c.begin_bits.ensures.fits are known.count;
      last = last_more words k c.last_bit-last.result c.last_bit-last.ensures;
      few = omega (arith, ones-le 64 c.begin_bits.result c.begin_bits.ensures.fits);
    }

pub returns-clause-count : goal.returns-clause-count
returns-clause-count c =
    let end : c.loop-k.k ≡ length c.args.words.now = omega arith in
    subst (λ (t : ℕ). c.loop-k.count ≡ tally (begin_at (bit_of c.args.words.now)) (64 * t)) end c.loop-k.invariant.count
