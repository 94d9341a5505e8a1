use Rattle.std.proofs.Common.{ℕ, ◌+◌, ◌∙◌, ap, arith}
use Rattle.mw_rank_medians.specs.Columns.{column_below, block_below}
use Rattle.mw_rank_medians.proofs.Columns.{all_counted, line_more}
use Rattle.mw_rank_medians.proofs.rows.medians_of_25.Goals as goal

pub by_vector-preserved : goal.by_vector-preserved
by_vector-preserved g c =
    let level = g.P.Pixel.level in
    let top = g.P.Pixel.TOP in
    let sheet = c.args.sheet in
    let from = c.min-from.result in
    let count = block_below level top sheet.samples.now sheet.from sheet.stride 5 in
    let column = λ (j t : ℕ). column_below level top sheet.samples.now sheet.from sheet.stride 5 j t in
    record {
      within = omega (arith, c.store.ensures.size, c.min-from.ensures, c.by_vector.invariant.size, c.requires.wide, c.WIDTH.ensures, c.WIDTH-in-by_vector.ensures);
      size = c.store.ensures.size ∙ c.by_vector.invariant.size;
      medians = line_more level top count 13 from c.by_vector.done g.P.Vectored.WIDTH _ c.by_vector.out c.store.new.out (g.P.Vectored.lane c.median_of_tens-medians.result) (omega (arith, c.min-from.ensures)) (ap (λ (n : ℕ). from + n) c.WIDTH-in-by_vector.ensures) c.store.ensures.put c.store.ensures.before
          (λ i lt.
          let left = c.five_merged-left.ensures i (column (from + i)) (column (from + 1 + i)) (c.columns_of_five-first.ensures i lt) (c.columns_of_five-second.ensures i lt) in
          let right = c.five_merged-right.ensures i (column (from + 2 + i)) (column (from + 3 + i)) (c.columns_of_five-third.ensures i lt) (c.columns_of_five-fourth.ensures i lt) in
          all_counted level top sheet.samples.now sheet.from sheet.stride (from + i) (from + 1 + i) (from + 2 + i) (from + 3 + i) (from + 4 + i) _ (omega arith) (omega arith) (omega arith) (omega arith)
          (c.median_of_tens-medians.ensures i (λ t. column (from + i) t + column (from + 1 + i) t) (λ t. column (from + 2 + i) t + column (from + 3 + i) t) (column (from + 4 + i)) left right (c.columns_of_five-fifth.ensures i lt)))
          c.by_vector.invariant.medians;
    }
