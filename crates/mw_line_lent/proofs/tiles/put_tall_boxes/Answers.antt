use Rattle.std.proofs.Common.{ℕ, ◌+◌, ◌*◌, List, length, get_or, ap, arith, ◌∙◌}
use Rattle.std.proofs.lemmas.List.{length-replicate}
use Rattle.mw_model.proofs.mw_facts.Elements.{get_or-replicate_same}
use Rattle.mw_line_lent.proofs.SheetLines.{sheet_first}
use Rattle.mw_line_lent.proofs.tiles.put_tall_boxes.Goals as goal

pub put_tall_with_room-requires-clause-tall : goal.put_tall_with_room-requires-clause-tall
put_tall_with_room-requires-clause-tall g c =
    let b = c.args.boxes in
    let n = c.args.neutral in
    let is = c.as_slice.ensures.value ∙ c.in_ok-line.ensures in
    record {
      suited = c.requires.suited;
      part = c.requires.part;
      low = c.requires.low;
      near = c.requires.near;
      far = c.requires.far;
      room = omega (arith, ap length is, length-replicate b.part.count n);
      neutral = λ i lt. ap (λ (t : List g.row.P.Denot). get_or t i n) is ∙ get_or-replicate_same b.part.count i n;
    }

pub put_tall_with_room-requires-clause-sheet : goal.put_tall_with_room-requires-clause-sheet
put_tall_with_room-requires-clause-sheet g c =
    let b = c.args.boxes in
    let n = c.args.neutral in
    let count : ℕ = (b.down + 3) * b.part.count in
    let is = c.as_mut_slice.ensures.value ∙ c.in_ok-sheet.ensures in
    sheet_first n b c.as_mut_slice.result.now (λ p. ap (λ (t : List g.row.P.Denot). get_or t p n) is ∙ get_or-replicate_same count p n) (ap length is ∙ length-replicate count n)
