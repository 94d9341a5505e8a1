use Rattle.std.proofs.Common.{◌≡◌, ◌+◌, ◌*◌, ◌/◌, ℕ, get_or, ap, ◌∙◌, arith}
use Rattle.mw_pixel_words.specs.Packed.{bit_of}
use Rattle.mw_pixel_words.proofs.Funnels.{funnel_at}
use Rattle.mw_pixel_words.proofs.shifting.bits_from.Goals as goal

pub returns : goal.returns
returns c = λ i lt.
    let place = c.args.place in
    let same : place + (64 * 0 + i) ≡ place + i = omega arith in
    let first : place / 64 ≡ place / 64 + 0 = omega arith in
    let second : place / 64 + 1 ≡ place / 64 + 0 + 1 = omega arith in
    let words = c.args.words.now in
    funnel_at words place c.word_at-low.result c.word_at-high.result c.funnel.result 0 (c.word_at-low.ensures ∙ ap (λ (t : ℕ). get_or words t 0) first) (c.word_at-high.ensures ∙ ap (λ (t : ℕ). get_or words t 0) second) (record { below = c.funnel.ensures.below; above = c.funnel.ensures.above }) i lt
    ∙ ap (bit_of words) same
