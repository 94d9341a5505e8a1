use Rattle.std.proofs.Common.{◌+◌, ◌∙◌, ℕ, ap, arith}
use Rattle.mw_rank_medians.specs.Columns.{block_below}
use Rattle.mw_rank_lent.proofs.Nines.{nine_counted, vector_more}
use Rattle.mw_rank_lent.proofs.nine.put_nine.Goals as goal

pub by_vector-preserved : goal.by_vector-preserved
by_vector-preserved g c =
    let level = g.P.Pixel.level in
    let top = g.P.Pixel.TOP in
    let sheet = c.args.sheet in
    let from = c.min-from.result in
    let count = block_below level top sheet.samples.now sheet.from sheet.stride 3 in
    record {
      within = omega (arith, c.store_wide.ensures.size, c.min-from.ensures, c.by_vector.invariant.size, c.requires.wide, c.BREADTH.ensures, c.BREADTH-in-by_vector.ensures);
      size = c.store_wide.ensures.size ∙ c.by_vector.invariant.size;
      medians = vector_more level top count 5 from c.by_vector.done g.P.Broad.BREADTH _ c.by_vector.out c.store_wide.new.out (g.P.Broad.wide_lane c.median_of-medians.result) (omega (arith, c.min-from.ensures)) (ap (λ (n : ℕ). from + n) c.BREADTH-in-by_vector.ensures) c.store_wide.ensures.put c.store_wide.ensures.before
          (λ i lt. nine_counted level top sheet.samples.now sheet.from sheet.stride i from _ (c.median_of-medians.ensures i _ _ _ (c.sorted_at-left.ensures i lt) (c.sorted_at-middle.ensures i lt) (c.sorted_at-right.ensures i lt)))
          c.by_vector.invariant.medians;
    }
