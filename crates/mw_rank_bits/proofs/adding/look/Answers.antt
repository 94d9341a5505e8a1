use Rattle.std.proofs.Common.{◌≡◌, ◌+◌, ◌*◌, ◌/◌, ◌%◌, get_or, ap, arith, ◌∙◌}
use Rattle.mw_bits.specs.mw_pixel_words.Packed.{bit_of}
use Rattle.mw_rank_bits.proofs.adding.look.Goals as goal

pub returns : goal.returns
returns c = λ q lt.
    let p = get_or c.args.places.now c.args.i 0 in
    let there : 64 * (p / 64 + c.args.at) + p % 64 + q ≡ p + (64 * c.args.at + q) = omega arith in
    c.ahead.ensures q lt ∙ ap (bit_of c.args.cells.now) there
