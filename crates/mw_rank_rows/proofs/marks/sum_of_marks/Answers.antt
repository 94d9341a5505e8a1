use Rattle.std.proofs.Common.{ℕ, ◌+◌, ◌*◌, ◌≤◌, arith, get_or}
use Rattle.mw_rank_rows.specs.Columns.{total}
use Rattle.mw_rank_rows.proofs.Sums.{total-more, total-within}
use Rattle.mw_rank_rows.proofs.marks.sum_of_marks.Goals as goal

pub loop-i-preserved : goal.loop-i-preserved
loop-i-preserved c = record {
  size = c.plus-all.ensures.size;
  lanes = λ j lt.
      let n = c.loop-i.i in
      let f = λ (i : ℕ). get_or c.args.marks.now (i + j) 0 in
      let few : total f n ≤ n * 1 = total-within f n 1 (λ i less. c.requires.ones (i + j)) in
      let next = total-more f n in
      omega (arith, next, few, c.requires.ones (n + j), c.lanes_at.ensures.lanes j lt, c.loop-i.invariant.lanes j lt, c.plus-all.ensures.lanes j lt (omega (arith, few, c.requires.ones (n + j), c.lanes_at.ensures.lanes j lt, c.loop-i.invariant.lanes j lt)));
}
