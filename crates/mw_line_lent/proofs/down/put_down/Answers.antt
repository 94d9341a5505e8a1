use Rattle.std.proofs.Common.{◌+◌, ◌*◌, get_or, sym, subst, arith}
use Rattle.mw_line_lent.specs.Bests.{IsBest}
use Rattle.mw_line_lent.specs.Boxes.{IsPutAt}
use Rattle.mw_line_lent.proofs.Puts.{put_none, put_on, put_part}
use Rattle.mw_line_lent.proofs.down.put_down.Goals as goal

pub by_vector-init : goal.by_vector-init
by_vector-init g c = record { within = omega arith; put = put_none c.args.at c.args.n c.args.out.now; made = λ i d lt. absurd (omega (arith, lt)) }

pub by_vector-preserved : goal.by_vector-preserved
by_vector-preserved g c =
    let f = g.E.Extremum.merge in
    let n = c.args.neutral in
    let rows = c.args.rows in
    let at = c.args.at in
    let from = c.min-from.result in
    let width = g.P.Laned.WIDTH in
    let mid = c.by_vector.out in
    let new = c.store.new.out in
    let put : IsPutAt (at + from) width mid new = record { size = c.store.ensures.size; before = c.store.ensures.before; behind = c.store.ensures.behind } in
    record {
      within = omega (arith, c.min-from.ensures, c.requires.wide, c.WIDTH.ensures, c.WIDTH-in-by_vector.ensures);
      put = put_part at c.args.n (at + from) width c.args.out.now mid new (omega arith) (omega (arith, c.min-from.ensures, c.requires.wide, c.WIDTH.ensures)) c.by_vector.invariant.put put;
      made = λ i d lt.
          put_on (λ i v. IsBest f (λ j. f n (get_or rows.samples.now (rows.from + j * rows.stride + i) d)) 0 rows.count v) d at c.by_vector.done from width mid new (omega (arith, c.min-from.ensures)) put
          (λ i lt. subst (IsBest f (λ j. f n (get_or rows.samples.now (rows.from + j * rows.stride + (from + i)) d)) 0 rows.count) (sym (c.store.ensures.put i d lt)) (c.best_of_rows-best.ensures i d lt))
          (λ i lt. c.by_vector.invariant.made i d lt) i (omega (arith, lt, c.WIDTH-in-by_vector.ensures));
    }

pub returns-clause-made : goal.returns-clause-made
returns-clause-made g c = λ i d lt. c.by_vector.invariant.made i d (omega (arith, lt))
