use Rattle.std.proofs.Common.{◌+◌, ◌*◌, ◌≤◌, get_or, arith}
use Rattle.mw_line_lent.specs.Bests.{IsBest}
use Rattle.mw_line_lent.proofs.Puts.{in_rows_none, in_rows_on, in_rows_part}
use Rattle.mw_line_lent.proofs.both.put_two_both_over.Goals as goal

pub by_vector-init : goal.by_vector-init
by_vector-init g c = record {
  within = omega arith;
  upper_put = in_rows_none 2 c.args.lines.at c.args.n c.args.lines.wide c.args.uppers.now;
  lower_put = in_rows_none 2 c.args.lines.at c.args.n c.args.lines.wide c.args.lowers.now;
  upper = λ r i d few lt. absurd (omega (arith, lt));
  lower = λ r i d few lt. absurd (omega (arith, lt));
}

pub by_vector-preserved : goal.by_vector-preserved
by_vector-preserved g c =
    let rows = c.args.rows in
    let lines = c.args.lines in
    let n = c.args.n in
    let from = c.min-from.result in
    let width = g.P.Laned.WIDTH in
    let fits : from + width ≤ n = omega (arith, c.min-from.ensures, c.requires.wide, c.WIDTH.ensures) in
    record {
      within = omega (arith, fits, c.WIDTH-in-by_vector.ensures);
      upper_put = in_rows_part 2 lines.at n lines.wide from width c.args.uppers.now c.by_vector.uppers c.put_two_both_at.new.uppers fits c.by_vector.invariant.upper_put c.put_two_both_at.ensures.upper_put;
      lower_put = in_rows_part 2 lines.at n lines.wide from width c.args.lowers.now c.by_vector.lowers c.put_two_both_at.new.lowers fits c.by_vector.invariant.lower_put c.put_two_both_at.ensures.lower_put;
      upper = λ r i d few lt.
          in_rows_on (λ r i v. IsBest g.U.Extremum.merge (λ j. g.U.Extremum.merge c.args.ends.bottom (get_or rows.samples.now (rows.from + j * rows.stride + i) d)) r (r + rows.count) v) d 2 lines.at n lines.wide c.by_vector.done from width c.by_vector.uppers
          c.put_two_both_at.new.uppers (omega (arith, c.min-from.ensures)) fits c.requires.apart
          c.put_two_both_at.ensures.upper_put (λ r i few lt. c.put_two_both_at.ensures.upper r i d few lt) (λ r i few lt. c.by_vector.invariant.upper r i d few lt) r i few (omega (arith, lt, c.WIDTH-in-by_vector.ensures));
      lower = λ r i d few lt.
          in_rows_on (λ r i v. IsBest g.L.Extremum.merge (λ j. g.L.Extremum.merge c.args.ends.top (get_or rows.samples.now (rows.from + j * rows.stride + i) d)) r (r + rows.count) v) d 2 lines.at n lines.wide c.by_vector.done from width c.by_vector.lowers
          c.put_two_both_at.new.lowers (omega (arith, c.min-from.ensures)) fits c.requires.apart
          c.put_two_both_at.ensures.lower_put (λ r i few lt. c.put_two_both_at.ensures.lower r i d few lt) (λ r i few lt. c.by_vector.invariant.lower r i d few lt) r i few (omega (arith, lt, c.WIDTH-in-by_vector.ensures));
    }

pub returns-clause-upper : goal.returns-clause-upper
returns-clause-upper g c = λ r i d few lt. c.by_vector.invariant.upper r i d few (omega (arith, lt))

pub returns-clause-lower : goal.returns-clause-lower
returns-clause-lower g c = λ r i d few lt. c.by_vector.invariant.lower r i d few (omega (arith, lt))
