use Rattle.std.proofs.Common.{◌+◌, ◌≤◌, sym, subst, arith}
use Rattle.mw_line_lent.specs.Bests.{IsBest}
use Rattle.mw_line_lent.specs.Boxes.{IsPutAt}
use Rattle.mw_line_lent.proofs.Puts.{put_none, put_on, put_part}
use Rattle.mw_line_lent.proofs.across.put_taps.Goals as goal

pub by_vector-init : goal.by_vector-init
by_vector-init g c = record { within = omega arith; put = put_none c.args.at c.args.n c.args.out.now; made = λ value i d lt has. absurd (omega (arith, lt)) }

pub by_vector-preserved : goal.by_vector-preserved
by_vector-preserved g c =
    let f = g.E.Extremum.merge in
    let taps = c.args.taps in
    let at = c.args.at in
    let from = c.min-from.result in
    let width = g.P.Laned.WIDTH in
    let mid = c.by_vector.out in
    let new = c.store.new.out in
    let long = taps.last + taps.step in
    let fits : from + width ≤ c.args.n = omega (arith, c.min-from.ensures, c.requires.wide, c.WIDTH.ensures) in
    let put : IsPutAt (at + from) width mid new = record { size = c.store.ensures.size; before = c.store.ensures.before; behind = c.store.ensures.behind } in
    record {
      within = omega (arith, c.min-from.ensures, c.requires.wide, c.WIDTH.ensures, c.WIDTH-in-by_vector.ensures);
      put = put_part at c.args.n (at + from) width c.args.out.now mid new (omega arith) (omega (arith, fits)) c.by_vector.invariant.put put;
      made = λ value i d lt has.
          put_on (λ i v. IsBest f value i (i + long) v) d at c.by_vector.done from width mid new (omega (arith, c.min-from.ensures)) put
          (λ i lt. subst (IsBest f value (from + i) (from + i + long)) (sym (c.store.ensures.put i d lt)) (c.best_of_taps-best.ensures value i d lt (λ j le. has (from + i + j) (omega (arith, lt, le, fits)))))
          (λ i lt. c.by_vector.invariant.made value i d lt has) i (omega (arith, lt, c.WIDTH-in-by_vector.ensures));
    }

pub returns-clause-made : goal.returns-clause-made
returns-clause-made g c = λ value i d lt has. c.by_vector.invariant.made value i d (omega (arith, lt)) has
