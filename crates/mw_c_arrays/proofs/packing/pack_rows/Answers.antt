use Rattle.std.proofs.Common.{◌≡◌, ◌+◌, ◌-◌, ◌*◌, ℕ, List, length, take, drop, get_or, ap, arith, ◌∙◌, length-take, length-drop}
use Rattle.std.proofs.lemmas.List.{length-map}
use Rattle.mw_c_arrays.specs.Arrays.{pixels_in_bytes}
use Rattle.mw_pixel.specs.mw_pixel_words.Packed.{stride_of}
use Rattle.mw_pixel.proofs.mw_pixel_words.Bits.{rows_fit}
use Rattle.mw_pixel.proofs.mw_pixel_words.Done.{bit_rows_more_by}
use Rattle.mw_bits_rows.proofs.Packs.{packed_row, all_packed, samples_packed}
use Rattle.mw_c_arrays.proofs.Marked.{one_of, pixels_range}
use Rattle.mw_c_arrays.proofs.packing.pack_rows.Goals as goal

pub loop-y-preserved : goal.loop-y-preserved
loop-y-preserved c =
    let bytes = c.args.bytes.now in
    let known = c.loop-y.invariant in
    let s = c.stride-stride.result in
    let y = c.loop-y.y in
    let w = c.args.width in
    let h = c.args.height in
    let m = y * s + s - y * s in
    let stride-is : s ≡ stride_of w = c.stride-stride.ensures.value in
    let fits = rows_fit y h s (omega arith) in
    let room = ap (λ (t : ℕ). h * t) stride-is in
    let whole : length (take m (drop (y * s) c.loop-y.out)) ≡ s = omega (arith, length-take m (drop (y * s) c.loop-y.out), length-drop (y * s) c.loop-y.out, known.room, fits, room) in
    bit_rows_more_by (packed_row (pixels_in_bytes bytes) w) (stride_of w) h y s m c.args.out.now c.loop-y.out c.pack_row.new.out stride-is (omega arith) (omega arith) (omega (arith, c.pack_row.auto.out, whole))
    (λ x less. c.pack_row.ensures x (omega (arith, whole)) ∙ ap (λ (t : List ℕ). get_or t x 0) (pixels_range bytes (y * w) w)) known

pub returns-clause-packed : goal.returns-clause-packed
returns-clause-packed c =
    all_packed c.args.width c.args.height c.loop-y.y (pixels_in_bytes c.args.bytes.now) c.args.out.now c.loop-y.out (omega (arith, c.loop-y.invariant.size)) (omega arith) c.loop-y.invariant

pub returns-clause-samples : goal.returns-clause-samples
returns-clause-samples c =
    samples_packed c.args.width c.args.height c.loop-y.y (pixels_in_bytes c.args.bytes.now) c.args.out.now c.loop-y.out (length-map c.args.bytes.now one_of ∙ c.requires.size) (omega arith) c.loop-y.invariant
