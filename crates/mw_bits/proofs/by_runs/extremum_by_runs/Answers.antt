use Rattle.std.proofs.Common.{◌≡◌, ◌+◌, ◌-◌, ◌*◌, ◌/◌, ◌<◌, ◌≤◌, ◌-ℤ◌, ◌+ℤ◌, pos, ℕ, ℤ, List, length, to_z, of_z, w64, ap, ◌∙◌, arith}
use Rattle.std.proofs.lemmas.Int.{ints}
use Rattle.std.proofs.lemmas.List.{length-replicate}
use Rattle.mw_model.specs.declared.offsets.Rect.{Rect}
use Rattle.std.proofs.lemmas.Nat.{mul-le}
use Rattle.std.proofs.Math.Nat.{mul-le-mul_left}
use Rattle.mw_model.proofs.mw_facts.Alls.{all-weaker}
use Rattle.mw_model.proofs.mw_facts.Elements.{take-written}
use Rattle.mw_offset.specs.mw_element_runs.declared.runs.Run.{Run}
use Rattle.mw_model.proofs.Nonnegative.{nonnegative_is}
use Rattle.mw_offset.proofs.mw_line.Folds.{IsExtremum}
use Rattle.mw_offset.proofs.mw_line.Rows.{rows_fit}
use Rattle.mw_offset.proofs.Rooms.{row_fits}
use Rattle.mw_offset.proofs.Seens.{IsLaid, all_room, gather_seen}
use Rattle.mw_offset.specs.mw_pixel_words.Packed.{bit_of}
use Rattle.mw_bits_rows.specs.Rows.{laid_bits}
use Rattle.mw_offset.proofs.mw_pixel_words.Done.{blank_bit}
use Rattle.mw_bits_rows.proofs.Laid.{laid_bit, length-laid_bits}
use Rattle.mw_bits.proofs.NearRuns.{counts_of_inside, columns_few, all_inside_wider}
use Rattle.mw_bits_rows.proofs.Packs.{stride_wide}
use Rattle.mw_bits.proofs.by_runs.extremum_by_runs.Goals as goal

pub combine_runs-requires-clause-room : goal.combine_runs-requires-clause-room
combine_runs-requires-clause-room g c =
    let e = c.widened-laid.result in
    let tile = c.args.tile in
    let s = c.stride-stride.result in
    let words = (c.columns_after-columns.result + 63) / 64 in
    let wide = s + words in
    let high = tile.height + c.rows_after.result in
    let count = (tile.height - 1) * wide + s in
    let cells_size = ap length c.as_mut_slice.ensures.value in
    let out_size : length c.as_mut_slice-2.result.now ≡ count = ap length (c.as_mut_slice-2.ensures.value ∙ c.in_ok-out.ensures) ∙ length-replicate count c.neutral_word.result in
    all_room (64 * s) tile.height (64 * wide) high (64 * length c.as_mut_slice-2.result.now) (64 * (length c.as_mut_slice.result.now - 1)) e c.args.runs.now c.requires.some.1
    (omega (arith, c.widened-laid.ensures.columns)) (ap (λ (t : ℕ). tile.height + t) c.rows_after.ensures.value) (omega (arith, out_size)) (omega (arith, c.in_ok-cells.ensures.size))
    (all_inside_wider e c.args.extent c.args.runs.now c.widened-laid.ensures.wider c.requires.inside)

pub combine_runs-requires-clause-longest : goal.combine_runs-requires-clause-longest
combine_runs-requires-clause-longest g c =
    let longest = c.longest_of-longest.result in
    let size : length c.as_slice.result.now ≡ longest + 1 = omega (arith, c.as_slice.ensures.len, c.in_ok-counts.ensures.size) in
    all-weaker (λ (r : Run). r.count ≤ longest) (λ (r : Run). r.count < length c.as_slice.result.now) c.args.runs.now (λ r le. omega arith) c.longest_of-longest.ensures.all

pub combine_runs-requires-clause-within : goal.combine_runs-requires-clause-within
combine_runs-requires-clause-within g c =
    let columns = c.columns_after-columns.result in
    let tile = c.args.tile in
    let wide = c.stride-stride.result + (columns + 63) / 64 in
    let high = tile.height + c.rows_after.result in
    let some : 1 ≤ high = omega (arith, c.requires.some) in
    let size = ap length c.as_mut_slice.ensures.value in
    let longest = c.longest_of-longest.ensures.least (columns + 1) (counts_of_inside c.args.extent columns c.args.runs.now c.columns_after-columns.ensures.value c.requires.inside) in
    omega (arith, c.in_ok-cells.ensures.size, mul-le-mul_left wide some, c.stride-stride.ensures.value, c.as_slice.ensures.len, c.in_ok-counts.ensures.size, longest)

pub combine_runs-requires-clause-few : goal.combine_runs-requires-clause-few
combine_runs-requires-clause-few g c =
    let e = c.args.extent in
    let tile = c.args.tile in
    let rows = c.requires.near.rows in
    let wide = c.stride-stride.result + (c.columns_after-columns.result + 63) / 64 in
    let high = tile.height + c.rows_after.result in
    let down : c.rows_after.result ≤ 1023 = omega (arith, ints, nonnegative_is (c.widened-laid.result.bottom -ℤ c.widened-laid.result.top), c.rows_after.ensures.value, c.widened-laid.ensures.top, c.widened-laid.ensures.bottom) in
    let across : c.columns_after-columns.result ≤ 1023 = columns_few e c.columns_after-columns.result c.columns_after-columns.ensures.value c.requires.near in
    let short : c.stride-stride.result ≤ 33554432 = omega (arith, c.stride-stride.ensures.value) in
    let all = mul-le high wide 2147484671 33554449 (omega arith) (omega arith) in
    let size = ap length c.as_mut_slice.ensures.value in
    omega (arith, c.in_ok-cells.ensures.size)

pub trimmed-requires-clause-words : goal.trimmed-requires-clause-words
trimmed-requires-clause-words g c = λ y lt.
    let tile = c.args.tile in
    let s = c.stride-stride.result in
    let wide = s + (c.columns_after-columns.result + 63) / 64 in
    let count = (tile.height - 1) * wide + s in
    let out = c.combine_runs.new.out in
    let whole : length out ≡ c.in_ok-out.out.len = omega arith in
    let old_size : length c.as_mut_slice-2.result.now ≡ count = ap length (c.as_mut_slice-2.ensures.value ∙ c.in_ok-out.ensures) ∙ length-replicate count c.neutral_word.result in
    let size = ap length (c.as_slice-2.ensures.value ∙ take-written c.in_ok-out.out.items out c.in_ok-out.out.len whole) in
    let there = row_fits y tile.height wide s count lt (omega arith) in
    omega (arith, c.stride-stride.ensures.value)

pub returns-clause-cells : goal.returns-clause-cells
returns-clause-cells g c =
    let f = g.E.Extremum.merge in
    let n = g.E.Extremum.neutral_of 1 in
    let laws : IsExtremum f = record { commutes = g.met.E.Extremum.commutes; associates = g.met.E.Extremum.associates; is_idempotent = g.met.E.Extremum.is_idempotent } in
    let w = c.args.set.now in
    let e = c.widened-laid.result in
    let s = c.stride-stride.result in
    let words = (c.columns_after-columns.result + 63) / 64 in
    let wide = s + words in
    let tile = c.args.tile in
    let tile_words : Rect = record { x = tile.x; y = tile.y; width = 64 * s; height = tile.height } in
    let high = tile.height + c.rows_after.result in
    let count = (tile.height - 1) * wide + s in
    let cells = c.as_mut_slice.result.now in
    let old = c.as_mut_slice-2.result.now in
    let out = c.combine_runs.new.out in
    let place_x = ap (λ (t : Rect). t.x) c.place-place.ensures.value in
    let place_y = ap (λ (t : Rect). t.y) c.place-place.ensures.value in
    let column : ℤ = to_z w64 (of_z w64 c.first_column-column.result) in
    let row : ℤ = to_z w64 (of_z w64 c.first_row-row.result) in
    let column-is : column ≡ pos tile.x +ℤ e.left -ℤ pos w.place.x = omega (arith, ints, c.first_column-column.ensures, place_x) in
    let row-is : row ≡ pos tile.y +ℤ e.top -ℤ pos w.place.y = omega (arith, ints, c.first_row-row.ensures, place_y) in
    let old-is = c.as_mut_slice-2.ensures.value ∙ c.in_ok-out.ensures in
    let old_size : length old ≡ count = ap length old-is ∙ length-replicate count c.neutral_word.result in
    let whole : length out ≡ c.in_ok-out.out.len = omega arith in
    let cells-is = c.as_mut_slice.ensures.value in
    let cells_size = ap length cells-is in
    let fits : length cells ≡ high * wide + 1 = omega (arith, c.in_ok-cells.ensures.size) in
    let bits = length-laid_bits cells in
    let laid : IsLaid f n w tile_words e (64 * wide) high column row (laid_bits cells) = record {
      wide_is = omega (arith, c.widened-laid.ensures.columns);
      high_is = ap (λ (t : ℕ). tile.height + t) c.rows_after.ensures.value;
      column_is = column-is;
      row_is = row-is;
      size = omega (arith, bits, fits);
      cells_are = λ x y less row_less.
          laid_bit cells (y * (64 * wide) + x) n (omega (arith, fits, rows_fit y high wide row_less))
          ∙ ap (λ (t : List ℕ). bit_of t (y * (64 * wide) + x)) cells-is
          ∙ c.in_ok-cells.ensures.cells x y less row_less;
    } in
    λ x y less row_less.
    let at = y * (64 * wide) + x in
    let inside : x < 64 * s = omega (arith, stride_wide tile.width x less, c.stride-stride.ensures.value) in
    let there = row_fits y tile.height wide s count row_less (omega arith) in
    c.in_ok-made.ensures.bits x y less row_less
    ∙ ap (λ (t : List ℕ). bit_of t at) (c.as_slice-2.ensures.value ∙ take-written c.in_ok-out.out.items out c.in_ok-out.out.len whole)
    ∙ c.combine_runs.ensures n (λ q lt. ap (λ (t : List ℕ). bit_of t q) old-is ∙ blank_bit count c.neutral_word.result n q (omega (arith, old_size)) c.neutral_word.ensures) at (omega (arith, there, old_size))
    ∙ gather_seen f laws n w tile_words e (64 * wide) high column row (laid_bits cells) laid c.args.runs.now (all_inside_wider e c.args.extent c.args.runs.now c.widened-laid.ensures.wider c.requires.inside) x y inside row_less
