use Rattle.std.proofs.Common.{◌≡◌, ℕ, ◌*◌, ◌+◌, ◌-◌, List, ap, arith, length, take, drop, length-take, length-drop, ◌∙◌}
use Rattle.mw_pixel_words.specs.Packed.{bit_of}
use Rattle.mw_pixel_words.proofs.Bits.{bit_of_part, rows_fit}
use Rattle.mw_pixel_words.proofs.Done.{bit_rows_more}
use Rattle.mw_pixel_words.proofs.trimming.copy_rows.Goals as goal

pub loop-y-preserved : goal.loop-y-preserved
loop-y-preserved c =
    let cells = c.args.cells.now in
    let wide = c.args.wide in
    let s = c.args.stride in
    let y = c.loop-y.y in
    let from = y * wide in
    let m = from + s - from in
    let k = y * s + s - y * s in
    let fits = rows_fit y c.args.high s c.loop-y-test.true in
    let whole : length (take k (drop (y * s) c.loop-y.out)) ≡ s = omega (arith, length-take k (drop (y * s) c.loop-y.out), length-drop (y * s) c.loop-y.out, c.loop-y.invariant.room, fits) in
    bit_rows_more (λ best x j. bit_of cells (j * (64 * wide) + x)) s c.args.high y k c.args.out.now c.loop-y.out c.copy_words.new.out c.loop-y-test.true (omega arith) (omega (arith, c.copy_words.auto.out, whole))
    (λ x less.
    let place : y * (64 * wide) + x ≡ 64 * from + x = omega arith in
    ap (λ (t : List ℕ). bit_of t x) c.copy_words.ensures ∙ bit_of_part cells from m x (y * (64 * wide) + x) (omega arith) place)
    c.loop-y.invariant
