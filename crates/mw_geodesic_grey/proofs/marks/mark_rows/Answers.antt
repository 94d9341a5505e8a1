use Rattle.std.proofs.Common.{◌≡◌, ◌+◌, ◌-◌, ◌*◌, ℕ, length, take, drop, ap, arith, length-take, length-drop}
use Rattle.mw_pixel.specs.mw_pixel_words.Packed.{stride_of}
use Rattle.mw_pixel.proofs.mw_pixel_words.Bits.{rows_fit}
use Rattle.mw_pixel.proofs.mw_pixel_words.Done.{bit_rows_more_by}
use Rattle.mw_geodesic_grey.proofs.Marked.{row_mark, row_marked, rows_packed, place_marked}
use Rattle.mw_geodesic_grey.proofs.marks.mark_rows.Goals as goal

pub loop-y-preserved : goal.loop-y-preserved
loop-y-preserved g c =
    let level = g.P.Pixel.level in
    let f = c.args.upper.now in
    let known = c.loop-y.invariant in
    let s = c.stride-stride.result in
    let y = c.loop-y.y in
    let w = f.width in
    let m = y * s + s - y * s in
    let stride-is : s ≡ stride_of w = omega (arith, c.stride-stride.ensures.value, ap stride_of c.width.ensures.value) in
    let fits = rows_fit y f.height s (omega arith) in
    let room = ap (λ (t : ℕ). f.height * t) stride-is in
    let whole : length (take m (drop (y * s) c.loop-y.out)) ≡ s = omega (arith, length-take m (drop (y * s) c.loop-y.out), length-drop (y * s) c.loop-y.out, known.rows.room, fits, room) in
    let line_size : length c.mark_row.new.line ≡ w = omega (arith, c.mark_row.auto.line, known.line_size) in
    record {
      line_size = line_size;
      rows = bit_rows_more_by (row_mark level f c.args.lower.now) (stride_of w) f.height y s m c.args.out.now c.loop-y.out c.pack_row.new.out stride-is (omega arith) (omega arith) (omega (arith, c.pack_row.auto.out, whole))
          (λ x less.
          row_marked level f c.args.lower.now c.row.result.now c.row-in-loop-y.result.now c.mark_row.new.line y x _ (c.pack_row.ensures x (omega (arith, whole))) c.requires.width line_size c.row.ensures.value c.row-in-loop-y.ensures.value
          (λ k lt. c.mark_row.ensures k (omega (arith, c.mark_row.auto.line)))) known.rows;
    }

pub returns-clause-packed : goal.returns-clause-packed
returns-clause-packed g c = rows_packed g.P.Pixel.level c.args.upper.now c.args.lower.now c.loop-y.y c.args.out.now c.loop-y.out (omega (arith, c.loop-y.invariant.rows.size)) (omega arith) c.loop-y.invariant.rows

pub returns-clause-marked : goal.returns-clause-marked
returns-clause-marked g c = place_marked g.P.Pixel.level c.args.upper.now c.args.lower.now c.loop-y.y c.args.out.now c.loop-y.out (omega arith) c.loop-y.invariant.rows
