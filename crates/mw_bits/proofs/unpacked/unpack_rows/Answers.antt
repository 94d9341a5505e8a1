use Rattle.std.proofs.Common.{◌≡◌, ◌+◌, ◌*◌, get_or, ap, arith, ◌∙◌}
use Rattle.mw_model.specs.declared.offsets.Rect.{Rect}
use Rattle.mw_offset.proofs.mw_line.Rows.{rows_made_more}
use Rattle.mw_bits_rows.proofs.Packs.{rows_are, stride_wide}
use Rattle.mw_bits.proofs.unpacked.unpack_rows.Goals as goal

pub loop-y-preserved : goal.loop-y-preserved
loop-y-preserved c =
    let set = c.args.set.now in
    let w = set.place.width in
    let y = c.loop-y.y in
    let width-is : c.place-place.result.width ≡ w = ap (λ (t : Rect). t.width) c.place-place.ensures.value in
    let row_size = c.row_of.ensures.length in
    record {
      made = rows_made_more (λ x j. get_or set.cells (j * w + x) 0) 0 w y c.place-place.result.width c.loop-y.samples.items c.unpack_row.new.out c.extend_from_slice.new.self.items
          (omega arith) (omega (arith, c.unpack_row.auto.out)) c.in_ok-extend_from_slice.ensures.items
          (λ x less. c.unpack_row.ensures x (omega (arith, row_size, stride_wide w x less)) ∙ c.row_of.ensures.samples x less) c.loop-y.invariant.made;
    }

pub returns : goal.returns
returns c =
    let set = c.args.set.now in
    let height-is : c.place-place.result.height ≡ set.place.height = ap (λ (t : Rect). t.height) c.place-place.ensures.value in
    rows_are set.place.width set.place.height c.loop-y.y set.cells c.loop-y.samples.items c.words_of-words.ensures.size (omega arith) c.loop-y.invariant.made
