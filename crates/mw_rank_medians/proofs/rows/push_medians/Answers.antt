use Rattle.std.proofs.Common.{◌∙◌, ◌-◌, ◌++◌, List, ap, arith, drop, length, length-drop}
use Rattle.std.proofs.lemmas.List.{take_all}
use Rattle.mw_rank_medians.proofs.Joined.{medians_more}
use Rattle.mw_rank_medians.proofs.rows.push_medians.Goals as goal

pub by_piece-preserved : goal.by_piece-preserved
by_piece-preserved g c =
    let sheet = c.args.sheet in
    let from = c.min-from.result in
    let made = c.medians_of_rows.new.out in
    let skipped = c.by_piece.done - from in
    let all = take_all (length made - skipped) (drop skipped made) (omega (arith, length-drop skipped made)) in
    record {
      within = omega (arith, c.medians_of_rows.ensures.size, c.min-from.ensures, c.by_piece.invariant.size, c.requires.part);
      size = c.medians_of_rows.ensures.size ∙ c.by_piece.invariant.size;
      medians = medians_more g.P.Pixel.level g.P.Pixel.TOP sheet.samples.now sheet.from sheet.stride c.args.side c.args.k from c.by_piece.done _ made c.by_piece.out.items c.args.out.now.items c.extend_from_slice.new.self.items
          (omega (arith, c.min-from.ensures)) (omega (arith, c.min-from.ensures)) (omega arith) (c.in_ok-extend_from_slice.ensures.items ∙ ap (λ (l : List _). c.by_piece.out.items ++ l) all)
          (λ j lt. c.medians_of_rows.ensures.medians j (omega (arith, c.medians_of_rows.ensures.size)))
          c.by_piece.invariant.medians;
    }
