use Rattle.std.proofs.Common.{◌+◌, ◌*◌, ◌≤◌, get_or, arith}
use Rattle.mw_line_lent.specs.Bests.{IsBest}
use Rattle.mw_line_lent.proofs.Puts.{in_rows_none, in_rows_on, in_rows_part}
use Rattle.mw_line_lent.proofs.fours.put_two_over.Goals as goal

pub by_vector-init : goal.by_vector-init
by_vector-init g c = record { within = omega arith; put = in_rows_none 2 c.args.lines.at c.args.n c.args.lines.wide c.args.out.now; made = λ r i d few lt. absurd (omega (arith, lt)) }

pub by_vector-preserved : goal.by_vector-preserved
by_vector-preserved g c =
    let f = g.E.Extremum.merge in
    let neutral = c.args.neutral in
    let rows = c.args.rows in
    let lines = c.args.lines in
    let n = c.args.n in
    let from = c.min-from.result in
    let width = g.P.Laned.WIDTH in
    let mid = c.by_vector.out in
    let new = c.put_two_at.new.out in
    let fits : from + width ≤ n = omega (arith, c.min-from.ensures, c.requires.wide, c.WIDTH.ensures) in
    record {
      within = omega (arith, fits, c.WIDTH-in-by_vector.ensures);
      put = in_rows_part 2 lines.at n lines.wide from width c.args.out.now mid new fits c.by_vector.invariant.put c.put_two_at.ensures.put;
      made = λ r i d few lt.
          in_rows_on (λ r i v. IsBest f (λ j. f neutral (get_or rows.samples.now (rows.from + j * rows.stride + i) d)) r (r + rows.count) v) d 2 lines.at n lines.wide c.by_vector.done from width mid new (omega (arith, c.min-from.ensures)) fits c.requires.apart
          c.put_two_at.ensures.put (λ r i few lt. c.put_two_at.ensures.made r i d few lt) (λ r i few lt. c.by_vector.invariant.made r i d few lt) r i few (omega (arith, lt, c.WIDTH-in-by_vector.ensures));
    }

pub returns-clause-made : goal.returns-clause-made
returns-clause-made g c = λ r i d few lt. c.by_vector.invariant.made r i d few (omega (arith, lt))
