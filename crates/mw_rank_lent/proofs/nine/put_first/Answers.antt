use Rattle.std.proofs.Common.{ℕ, ◌+◌, ◌∙◌, ◌<◌, ap, arith, subst}
use Rattle.mw_rank_lent.specs.Sorted.{AreSorted, lanes_of_sorted}
use Rattle.mw_rank_medians.specs.Columns.{column_below, block_below}
use Rattle.mw_rank_lent.proofs.Further.{ahead_holds}
use Rattle.mw_rank_lent.proofs.Nines.{nine_counted, vector_more}
use Rattle.mw_rank_lent.proofs.nine.put_first.Goals as goal

pub by_vector-preserved : goal.by_vector-preserved
by_vector-preserved g c =
    let level = g.P.Pixel.level in
    let top = g.P.Pixel.TOP in
    let lane = g.P.Broad.wide_lane in
    let width = g.P.Broad.BREADTH in
    let sheet = c.args.sheet in
    let done = c.by_vector.done in
    let count = block_below level top sheet.samples.now sheet.from sheet.stride 3 in
    let column = λ (j t : ℕ). column_below level top sheet.samples.now sheet.from sheet.stride 3 j t in
    let here = c.by_vector.invariant.columns in
    let next : (i : ℕ) → i < width → AreSorted (column (done + width + i)) (lanes_of_sorted lane c.sorted_at-next.result i) =
    subst (λ (w : ℕ). (i : ℕ) → i < width → AreSorted (column (done + w + i)) (lanes_of_sorted lane c.sorted_at-next.result i)) c.BREADTH-width.ensures c.sorted_at-next.ensures in
    let middle = ahead_holds (lanes_of_sorted lane) (λ j x. AreSorted (column j) x) width 1 done c.by_vector.here c.sorted_at-next.result c.sorted_one_on-middle.result (omega (arith, g.met.P.Broad.is_broad)) c.sorted_one_on-middle.ensures here next in
    let right = ahead_holds (lanes_of_sorted lane) (λ j x. AreSorted (column j) x) width 2 done c.by_vector.here c.sorted_at-next.result c.sorted_two_on-right.result (omega (arith, g.met.P.Broad.is_broad)) c.sorted_two_on-right.ensures here next in
    record {
      within = omega (arith, c.store_wide.ensures.size, c.by_vector.invariant.size, c.BREADTH-width.ensures);
      size = c.store_wide.ensures.size ∙ c.by_vector.invariant.size;
      columns = c.sorted_at-next.ensures;
      medians = vector_more level top count 5 done done width _ c.by_vector.out c.store_wide.new.out (lane c.median_of-medians.result) (omega arith) (ap (λ (n : ℕ). done + n) c.BREADTH-width.ensures) c.store_wide.ensures.put c.store_wide.ensures.before
          (λ i lt. nine_counted level top sheet.samples.now sheet.from sheet.stride i done _ (c.median_of-medians.ensures i _ _ _ (here i lt) (middle i lt) (right i lt)))
          c.by_vector.invariant.medians;
    }
