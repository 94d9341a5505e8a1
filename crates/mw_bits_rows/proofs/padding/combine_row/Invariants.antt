use Rattle.std.proofs.Common.{◌≡◌, ℕ, ◌+◌, ◌*◌, ◌<◌, pos, ◌+ℤ◌, ◌-ℤ◌}
use Rattle.std.specs.Int.{bit_at}
use Rattle.mw_line.specs.mw_lane.Shifted.{merge_at}
use Rattle.mw_bits_rows.specs.Rows.{pixel_at, words_before}
use Rattle.mw_line.proofs.mw_pixel_words.Done.{WordsDone}
use Rattle.mw_bits_rows.proofs.Paddings.{padded_at}
use Rattle.mw_bits_rows.proofs.padding.combine_row.Given as goal

abbrev pub invariant-loop-i : goal.invariant-loop-i
invariant-loop-i g l =
    let f = g.E.Extremum.merge in
    let n = g.E.Extremum.neutral_of 1 in
    record {
      done : WordsDone (λ best x. merge_at f best (pixel_at l.row l.width (l.column +ℤ pos x))) l.i l.fn.out l.out;
      low : (i : ℕ) → i < 64 → bit_at l.low i ≡ padded_at f n l.row l.width (pos (64 * (l.first + l.i) + i) -ℤ pos (64 * words_before));
    }
