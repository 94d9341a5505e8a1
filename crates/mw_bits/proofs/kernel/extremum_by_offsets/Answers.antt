use Rattle.std.proofs.Common.{◌≡◌, ℕ, ◌*◌, ◌+◌, ◌<◌, ap, ◌∙◌, arith, List, length, fold}
use Rattle.mw_model.proofs.mw_facts.Elements.{take-written}
use Rattle.mw_model.specs.Rasters.{seen_under}
use Rattle.mw_model.specs.Windows.{seen_at}
use Rattle.mw_offset.proofs.mw_line.Rows.{rows_fit}
use Rattle.mw_offset.specs.mw_pixel_words.Packed.{bit_of}
use Rattle.mw_offset.proofs.mw_pixel_words.Done.{blank_bit}
use Rattle.mw_bits_rows.proofs.Packs.{stride_wide}
use Rattle.mw_bits.proofs.kernel.extremum_by_offsets.Goals as goal

pub returns-clause-cells : goal.returns-clause-cells
returns-clause-cells g c =
    let f = g.E.Extremum.merge in
    let n = g.E.Extremum.neutral_of 1 in
    let tile = c.args.tile in
    let s = c.stride-stride.result in
    let out = c.combine_offsets.new.out in
    let items = c.in_ok-cells.cells.items in
    let whole : length out ≡ c.in_ok-cells.cells.len = omega arith in
    λ x y less row_less.
    let at = y * (64 * s) + x in
    let seen = seen_under (seen_at c.args.set.now) c.args.offsets.now (tile.x + x) (tile.y + y) in
    let wide : x < 64 * s = omega (arith, stride_wide tile.width x less, c.stride-stride.ensures.value) in
    c.in_ok-made.ensures.bits x y less row_less
    ∙ ap (λ (t : List ℕ). bit_of t at) (c.as_slice.ensures.value ∙ take-written items out c.in_ok-cells.cells.len whole)
    ∙ c.combine_offsets.ensures x y wide row_less
    ∙ ap (λ (t : List ℕ). fold f (bit_of t at) seen) (c.as_mut_slice.ensures.value ∙ c.in_ok-cells.ensures)
    ∙ ap (λ (t : ℕ). fold f t seen) (blank_bit (tile.height * s) c.neutral_word.result n at (omega (arith, rows_fit y tile.height s row_less)) c.neutral_word.ensures)
