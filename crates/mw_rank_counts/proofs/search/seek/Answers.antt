use Rattle.std.proofs.Common.{◌≡◌, ℕ, ◌-◌, get_or, arith, subst, ap, ◌∙◌}
use Rattle.mw_rank_counts.specs.Counting.{levels_on, AreBetween, raised}
use Rattle.mw_rank_counts.proofs.Seeking.{between_next, bits_before, step_is, step_small}
use Rattle.mw_rank_counts.proofs.search.seek.Goals as goal

pub raise-requires-clause-small : goal.raise-requires-clause-small
raise-requires-clause-small g c =
    let b = c.loop-bit.bit - 1 in
    rw (step_is b (omega (arith, g.met.P.Counted.few_bits, c.requires.within))) (step_small b g.P.Counted.BITS g.P.Pixel.top_level (omega (arith, c.requires.within)) g.met.P.Counted.has_bits)

pub loop-bit-preserved : goal.loop-bit-preserved
loop-bit-preserved g c =
    let b = c.loop-bit.bit - 1 in
    let n = c.args.n in
    let step = step_is b (omega (arith, g.met.P.Counted.few_bits, c.requires.within)) in
    between_next g.P.Pixel.level g.P.Pixel.TOP c.args.samples.now c.args.places.now n b c.loop-bit.found c.raise.new.found
    (λ i lt.
    c.raise.ensures i lt
    ∙ ap (λ (t : ℕ). raised t n (levels_on g.P.Pixel.level g.P.Pixel.TOP c.args.samples.now c.args.places.now i) (g.P.Pixel.level (get_or c.loop-bit.found i g.P.Pixel.TOP))) step)
    (bits_before g.P.Pixel.level g.P.Pixel.TOP c.args.samples.now c.args.places.now n c.loop-bit.bit c.loop-bit.found (omega arith) c.loop-bit.invariant)

pub returns : goal.returns
returns g c =
    let none : c.loop-bit.bit ≡ 0 = omega arith in
    subst (λ (b : ℕ). AreBetween g.P.Pixel.level g.P.Pixel.TOP c.args.samples.now c.args.places.now c.args.n b c.loop-bit.found) none c.loop-bit.invariant
