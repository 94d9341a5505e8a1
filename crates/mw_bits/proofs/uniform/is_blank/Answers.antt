use Rattle.mw_bits.proofs.UniformSeen.{only_of_bits}
use Rattle.mw_bits.proofs.UniformWords.{blank_bits}
use Rattle.mw_bits.proofs.uniform.is_blank.Goals as goal

pub returns-clause-only : goal.returns-clause-only
returns-clause-only c =
    let set = c.args.set.now in
    let words = c.words_of.result.now in (
      λ yes. only_of_bits 0 set.place.width set.place.height words set.cells c.words_of.ensures.samples (λ x y less row_less. c.are_clear.ensures.0 yes _),
      λ only. c.are_clear.ensures.1 (blank_bits set.place.width set.place.height words set.cells c.words_of.ensures.samples c.words_of.ensures.packed only),
    )
