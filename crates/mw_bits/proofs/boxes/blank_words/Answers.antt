use Rattle.std.proofs.Common.{◌≡◌, ◌<◌, ◌*◌, ◌+◌, ℕ, List, length, ap, ◌∙◌, arith}
use Rattle.std.proofs.lemmas.List.{length-replicate}
use Rattle.mw_offset.proofs.mw_line.Rows.{rows_fit}
use Rattle.mw_offset.specs.mw_pixel_words.Packed.{bit_of}
use Rattle.mw_offset.proofs.mw_pixel_words.Done.{blank_bit}
use Rattle.mw_bits_rows.proofs.Packs.{stride_wide}
use Rattle.mw_bits.proofs.boxes.blank_words.Goals as goal

pub trimmed-requires-clause-words : goal.trimmed-requires-clause-words
trimmed-requires-clause-words g c = λ y lt.
    let wide = c.stride-wide.result in
    let count = c.args.tile.height * wide in
    let size : length c.as_slice.result.now ≡ count = ap length (c.as_slice.ensures.value ∙ c.in_ok-cells.ensures) ∙ length-replicate count c.neutral_word.result in
    omega (arith, size, rows_fit y c.args.tile.height wide lt, c.stride-wide.ensures.value)

pub returns-clause-cells : goal.returns-clause-cells
returns-clause-cells g c = λ x y less row_less.
    let wide = c.stride-wide.result in
    let count = c.args.tile.height * wide in
    let at = y * (64 * wide) + x in
    let inside : x < 64 * wide = omega (arith, stride_wide c.args.tile.width x less, c.stride-wide.ensures.value) in
    c.in_ok-made.ensures.bits x y less row_less
    ∙ ap (λ (t : List ℕ). bit_of t at) (c.as_slice.ensures.value ∙ c.in_ok-cells.ensures)
    ∙ blank_bit count c.neutral_word.result (g.E.Extremum.neutral_of 1) at (omega (arith, rows_fit y c.args.tile.height wide row_less, inside)) c.neutral_word.ensures
