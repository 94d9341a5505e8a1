use Rattle.std.proofs.Common.{ℕ, ◌+◌, ◌*◌, get_or, refl, sym, arith}
use Rattle.mw_line_lent.specs.Bests.{IsBest}
use Rattle.mw_line_lent.proofs.Bests.{best_at, each_of_two}
use Rattle.mw_line_lent.proofs.fours.put_two_at.Goals as goal

pub returns-clause-made : goal.returns-clause-made
returns-clause-made g c = λ r i d few lt.
    let f = g.E.Extremum.merge in
    let n = c.args.neutral in
    let rows = c.args.rows in
    let from = c.args.from in
    let at = c.args.lines.at + from in
    let w = c.args.lines.wide in
    let new = c.store_two.new.out in
    let v : ℕ → g.row.P.Denot = λ j. f n (get_or rows.samples.now (rows.from + j * rows.stride + (from + i)) d) in
    each_of_two (λ r. IsBest f v r (r + rows.count) (get_or new (at + r * w + i) d))
    (best_at f v 0 rows.count 0 (0 + rows.count) _ _ refl (omega arith) (sym (c.store_two.ensures.first i d lt)) (c.two_of_rows-first.ensures.first i d lt))
    (best_at f v 1 (1 + rows.count) 1 (1 + rows.count) _ _ refl refl (sym (c.store_two.ensures.second i d lt)) (c.two_of_rows-first.ensures.second i d lt)) r few
