use Rattle.std.proofs.Common.{sum, ap, sym, ◌∙◌}
use Rattle.mw_bits_rows.proofs.Counts.{bits_are_sum}
use Rattle.mw_bits.proofs.counting.count.Goals as goal

pub returns-clause-value : goal.returns-clause-value
returns-clause-value c =
    let place = c.args.set.now.place in
    c.count_bits.ensures.count ∙ bits_are_sum place.width place.height c.words_of.result.now c.count_bits.ensures.fits c.words_of.ensures.packed ∙ ap sum (sym c.words_of.ensures.samples)
