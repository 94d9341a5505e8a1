use Rattle.std.proofs.Common.{ℕ, ◌+◌, ◌∙◌, ◌<◌, ap, arith, subst}
use Rattle.mw_rank_medians.specs.Numbered.{lanes_of_three, AreThree}
use Rattle.mw_rank_medians.specs.Columns.{column_below, block_below}
use Rattle.mw_rank_medians.proofs.Further.{ahead_holds}
use Rattle.mw_rank_medians.proofs.Columns.{nine_counted, line_more}
use Rattle.mw_rank_medians.proofs.rows.first_of_nine.Goals as goal

pub by_vector-preserved : goal.by_vector-preserved
by_vector-preserved g c =
    let level = g.P.Pixel.level in
    let top = g.P.Pixel.TOP in
    let lane = g.P.Vectored.lane in
    let width = g.P.Vectored.WIDTH in
    let sheet = c.args.sheet in
    let done = c.by_vector.done in
    let count = block_below level top sheet.samples.now sheet.from sheet.stride 3 in
    let column = λ (j t : ℕ). column_below level top sheet.samples.now sheet.from sheet.stride 3 j t in
    let here = c.by_vector.invariant.columns in
    let next : (i : ℕ) → i < width → AreThree (column (done + width + i)) (lanes_of_three lane c.columns_of_three-next.result i) =
    subst (λ (w : ℕ). (i : ℕ) → i < width → AreThree (column (done + w + i)) (lanes_of_three lane c.columns_of_three-next.result i)) c.WIDTH-width.ensures c.columns_of_three-next.ensures in
    let middle = ahead_holds (lanes_of_three lane) (λ j x. AreThree (column j) x) width 1 done c.by_vector.here c.columns_of_three-next.result c.three_one_ahead-middle.result (omega (arith, g.met.P.Vectored.is_wide)) c.three_one_ahead-middle.ensures here next in
    let right = ahead_holds (lanes_of_three lane) (λ j x. AreThree (column j) x) width 2 done c.by_vector.here c.columns_of_three-next.result c.three_two_ahead-right.result (omega (arith, g.met.P.Vectored.is_wide)) c.three_two_ahead-right.ensures here next in
    record {
      within = omega (arith, c.store.ensures.size, c.by_vector.invariant.size, c.WIDTH-width.ensures);
      size = c.store.ensures.size ∙ c.by_vector.invariant.size;
      columns = c.columns_of_three-next.ensures;
      medians = line_more level top count 5 done done width _ c.by_vector.out c.store.new.out (lane c.median_of_nine-medians.result) (omega arith) (ap (λ (n : ℕ). done + n) c.WIDTH-width.ensures) c.store.ensures.put c.store.ensures.before
          (λ i lt. nine_counted level top sheet.samples.now sheet.from sheet.stride i done _ (c.median_of_nine-medians.ensures i _ _ _ (here i lt) (middle i lt) (right i lt)))
          c.by_vector.invariant.medians;
    }
