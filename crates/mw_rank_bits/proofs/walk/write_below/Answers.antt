use Rattle.std.proofs.Common.{◌≡◌, ℕ, ◌+◌, ◌-◌, ◌*◌, ◌/◌, length, ap, arith, ◌∙◌}
use Rattle.mw_bits.specs.mw_pixel_words.Packed.{bit_of}
use Rattle.mw_rank_bits.proofs.Walks.{highest_digit}
use Rattle.mw_rank_bits.proofs.walk.write_below.Goals as goal

pub returns-clause-put : goal.returns-clause-put
returns-clause-put c = λ q lt.
    let planes = c.args.planes.now in
    let n = length planes / 2 in
    let place : 64 * (2 * (n - 1)) + q ≡ 128 * (n - 1) + q = omega arith in
    c.store.ensures.put q lt ∙ c.turned.ensures q lt ∙ ap (λ (t : ℕ). 1 - t) (c.load.ensures q lt ∙ ap (bit_of planes) place) ∙ highest_digit n planes q c.requires.some

pub returns-clause-others : goal.returns-clause-others
returns-clause-others c = c.store.ensures.others
