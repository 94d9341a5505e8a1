use Rattle.std.proofs.Common.{◌≡◌, ◌+◌, ◌-◌, ◌*◌, ℕ, List, length, take, drop, map, get_or, ap, arith, ◌∙◌, length-take, length-drop}
use Rattle.std.proofs.lemmas.List.{length-map}
use Rattle.mw_model.specs.declared.offsets.Rect.{Rect}
use Rattle.mw_offset.proofs.mw_line.Rows.{rows_fit}
use Rattle.mw_offset.specs.mw_pixel_words.Packed.{stride_of}
use Rattle.mw_offset.proofs.mw_pixel_words.Done.{bit_rows_more_by}
use Rattle.mw_bits_rows.proofs.Packs.{packed_row, all_packed, samples_packed}
use Rattle.mw_bits.proofs.LevelRows.{part_mapped}
use Rattle.mw_bits.proofs.levels.test_rows.Goals as goal

pub loop-y-preserved : goal.loop-y-preserved
loop-y-preserved g c =
    let window = c.args.window.now in
    let f : g.row.P.Denot → ℕ = λ (s : g.row.P.Denot). g.T.LevelTest.is_in c.args.k (g.P.Pixel.level s) in
    let known = c.loop-y.invariant in
    let s = c.stride-stride.result in
    let y = c.loop-y.y in
    let w = window.place.width in
    let m = y * s + s - y * s in
    let width-is = ap (λ (t : Rect). t.width) c.place-place.ensures.value in
    let height-is = ap (λ (t : Rect). t.height) c.place-place.ensures.value in
    let stride-is : s ≡ stride_of w = c.stride-stride.ensures.value ∙ ap stride_of width-is in
    let fits = rows_fit y window.place.height s (omega arith) in
    let room = ap (λ (t : ℕ). window.place.height * t) stride-is in
    let whole : length (take m (drop (y * s) c.loop-y.out)) ≡ s = omega (arith, length-take m (drop (y * s) c.loop-y.out), length-drop (y * s) c.loop-y.out, known.rows.room, fits, room) in
    record {
      line_size = c.test_row.auto.line ∙ known.line_size;
      rows = bit_rows_more_by (packed_row (map f window.cells) w) (stride_of w) window.place.height y s m c.args.out.now c.loop-y.out c.pack_row.new.out stride-is (omega arith) (omega arith) (omega (arith, c.pack_row.auto.out, whole))
          (λ x less. c.pack_row.ensures x (omega (arith, whole)) ∙ ap (λ (t : List ℕ). get_or t x 0) (c.test_row.ensures ∙ ap (map f) c.row.ensures.value ∙ part_mapped f window.cells (y * w) (y * w + w))) known.rows;
    }

pub returns-clause-packed : goal.returns-clause-packed
returns-clause-packed g c =
    let window = c.args.window.now in
    let f : g.row.P.Denot → ℕ = λ (s : g.row.P.Denot). g.T.LevelTest.is_in c.args.k (g.P.Pixel.level s) in
    let height-is = ap (λ (t : Rect). t.height) c.place-place.ensures.value in
    all_packed window.place.width window.place.height c.loop-y.y (map f window.cells) c.args.out.now c.loop-y.out (omega (arith, c.loop-y.invariant.rows.size)) (omega arith) c.loop-y.invariant.rows

pub returns-clause-samples : goal.returns-clause-samples
returns-clause-samples g c =
    let window = c.args.window.now in
    let f : g.row.P.Denot → ℕ = λ (s : g.row.P.Denot). g.T.LevelTest.is_in c.args.k (g.P.Pixel.level s) in
    let height-is = ap (λ (t : Rect). t.height) c.place-place.ensures.value in
    samples_packed window.place.width window.place.height c.loop-y.y (map f window.cells) c.args.out.now c.loop-y.out (length-map window.cells f ∙ c.samples-samples.ensures.size) (omega arith) c.loop-y.invariant.rows
