use Rattle.std.proofs.Common.{◌≡◌, ◌-◌, ℕ, List, drop, length, ap, arith, ◌∙◌}
use Rattle.std.proofs.lemmas.List.{take_at}
use Rattle.mw_pixel.specs.mw_pixel_words.Packed.{bit_of}
use Rattle.mw_geodesic_kept.proofs.Flips.{turned_set}
use Rattle.mw_geodesic_kept.proofs.flipping.flipped.Goals as goal

pub returns-clause-complement : goal.returns-clause-complement
returns-clause-complement c =
    let words = c.words-2.result.now in
    let start = c.as_mut_slice.result.now in
    let new = c.flip_words.new.words in
    let start_is : start ≡ words = c.as_mut_slice.ensures.value ∙ c.in_ok-turned.ensures.items in
    let whole : length new ≡ c.in_ok-turned.turned.len = omega (arith, c.flip_words.auto.words, c.as_mut_slice.ensures.len) in
    let turned_is : c.as_slice.result.now ≡ new = c.as_slice.ensures.value ∙ take_at new (drop (length new) c.in_ok-turned.turned.items) c.in_ok-turned.turned.len whole in
    turned_set c.args.set.now c.words.result.now c.of_words.result words c.as_slice.result.now c.in_ok-words.words.items c.width-width.result c.height-height.result c.stride.result c.words.ensures.value c.width-width.ensures.value c.height-height.ensures.value
    c.words-2.ensures.samples c.words-2.ensures.packed.size
    (λ q lt. ap (λ (t : List ℕ). bit_of t q) turned_is ∙ c.flip_words.ensures q (omega (arith, ap length start_is)) ∙ ap (λ (t : List ℕ). 1 - bit_of t q) start_is)
    c.stride.ensures.value c.in_ok-words.ensures.bits (c.of_words.ensures ∙ c.new.ensures)
