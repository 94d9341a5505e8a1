use Rattle.std.proofs.Common.{◌≡◌, ◌*◌, ◌+◌, ◌-◌, cond, nat_lt, ap, arith, length, take, drop, length-take, length-drop}
use Rattle.mw_line.specs.mw_pixel_words.Packed.{stride_of}
use Rattle.mw_line.proofs.mw_pixel_words.Bits.{rows_fit}
use Rattle.mw_line.proofs.mw_pixel_words.Done.{bit_rows_more_by}
use Rattle.mw_bits_rows.proofs.FilledMargins.{row_still_clean}
use Rattle.mw_bits_rows.proofs.margins.fill_margins.Goals as goal

pub fill_margin-requires-clause-clean : goal.fill_margin-requires-clause-clean
fill_margin-requires-clause-clean g c = λ x past lt.
    let y = c.loop-y.y in
    let s = c.stride-stride.result in
    row_still_clean c.args.width c.args.high y s (y * s + s - y * s) c.args.rows.now c.loop-y.rows x c.stride-stride.ensures.value (omega arith) c.requires c.loop-y.invariant.rest c.loop-y-test.true past lt

pub loop-y-preserved : goal.loop-y-preserved
loop-y-preserved g c =
    let width = c.args.width in
    let s = c.stride-stride.result in
    let y = c.loop-y.y in
    let k = y * s + s - y * s in
    let fits = rows_fit y c.args.high s c.loop-y-test.true in
    let room = ap (λ (t : _). c.args.high * t) c.stride-stride.ensures.value in
    let whole : length (take k (drop (y * s) c.loop-y.rows)) ≡ s = omega (arith, length-take k (drop (y * s) c.loop-y.rows), length-drop (y * s) c.loop-y.rows, c.loop-y.invariant.room, fits, room) in
    bit_rows_more_by (λ best x j. cond (nat_lt x width) best (g.E.Extremum.neutral_of 1)) (stride_of width) c.args.high y s k c.args.rows.now c.loop-y.rows c.fill_margin.new.row c.stride-stride.ensures.value c.loop-y-test.true (omega arith) (omega (arith, c.fill_margin.auto.row, whole))
    (λ x less. c.fill_margin.ensures x (omega arith))
    c.loop-y.invariant
