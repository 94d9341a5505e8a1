use Rattle.std.proofs.Common.{◌+◌, ◌∙◌, ℕ, ap, arith}
use Rattle.mw_rank_medians.specs.Columns.{block_below}
use Rattle.mw_rank_medians.proofs.Columns.{nine_counted, line_more}
use Rattle.mw_rank_medians.proofs.rows.medians_of_nine.Goals as goal

pub by_vector-preserved : goal.by_vector-preserved
by_vector-preserved g c =
    let level = g.P.Pixel.level in
    let top = g.P.Pixel.TOP in
    let sheet = c.args.sheet in
    let from = c.min-from.result in
    let count = block_below level top sheet.samples.now sheet.from sheet.stride 3 in
    record {
      within = omega (arith, c.store.ensures.size, c.min-from.ensures, c.by_vector.invariant.size, c.requires.wide, c.WIDTH.ensures, c.WIDTH-in-by_vector.ensures);
      size = c.store.ensures.size ∙ c.by_vector.invariant.size;
      medians = line_more level top count 5 from c.by_vector.done g.P.Vectored.WIDTH _ c.by_vector.out c.store.new.out (g.P.Vectored.lane c.median_of_nine-medians.result) (omega (arith, c.min-from.ensures)) (ap (λ (n : ℕ). from + n) c.WIDTH-in-by_vector.ensures) c.store.ensures.put c.store.ensures.before
          (λ i lt. nine_counted level top sheet.samples.now sheet.from sheet.stride i from _ (c.median_of_nine-medians.ensures i _ _ _ (c.columns_of_three-left.ensures i lt) (c.columns_of_three-middle.ensures i lt) (c.columns_of_three-right.ensures i lt)))
          c.by_vector.invariant.medians;
    }
