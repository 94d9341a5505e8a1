use Rattle.std.proofs.Common.{◌≡◌, ℕ, ◌*◌, ◌+◌, ◌-◌, cond, nat_lt, ap, arith, length, take, drop, length-take, length-drop}
use Rattle.mw_pixel_words.specs.Packed.{stride_of}
use Rattle.mw_pixel_words.proofs.Bits.{rows_fit}
use Rattle.mw_pixel_words.proofs.Done.{bit_rows_more_by}
use Rattle.mw_pixel_words.proofs.trimming.trim_rows.Goals as goal

pub loop-y-preserved : goal.loop-y-preserved
loop-y-preserved c =
    let width = c.args.width in
    let s = c.stride-stride.result in
    let y = c.loop-y.y in
    let m = y * s + s - y * s in
    let stride-is = c.stride-stride.ensures.value in
    let fits = rows_fit y c.args.high s c.loop-y-test.true in
    let room = ap (λ (t : ℕ). c.args.high * t) stride-is in
    let whole : length (take m (drop (y * s) c.loop-y.out)) ≡ s = omega (arith, length-take m (drop (y * s) c.loop-y.out), length-drop (y * s) c.loop-y.out, c.loop-y.invariant.room, fits, room) in
    bit_rows_more_by (λ best x j. cond (nat_lt x width) best 0) (stride_of width) c.args.high y s m c.args.out.now c.loop-y.out c.trim_row.new.out stride-is c.loop-y-test.true (omega arith) (omega (arith, c.trim_row.auto.out, whole))
    (λ x less. c.trim_row.ensures x (omega arith)) c.loop-y.invariant
