use Rattle.std.proofs.Common.{◌+◌, ◌≤◌, ap, arith, ◌∙◌}
use Rattle.mw_line_lent.specs.Boxes.{IsPutAt}
use Rattle.mw_line_lent.specs.Differences.{IsBestLess}
use Rattle.mw_line_lent.proofs.Puts.{put_none, put_on, put_part}
use Rattle.mw_line_lent.proofs.less.put_taps_less.Goals as goal

pub by_vector-init : goal.by_vector-init
by_vector-init g c = record { within = omega arith; put = put_none c.args.at c.args.n c.args.out.now; made = λ value other i d e lt has more. absurd (omega (arith, lt)) }

pub by_vector-preserved : goal.by_vector-preserved
by_vector-preserved g c =
    let level = g.P.Pixel.level in
    let taps = c.args.taps in
    let at = c.args.at in
    let from = c.min-from.result in
    let width = g.P.Laned.WIDTH in
    let mid = c.by_vector.out in
    let new = c.store.new.out in
    let long = taps.last + taps.step in
    let fits : from + width ≤ c.args.n = omega (arith, c.min-from.ensures, c.requires.wide, c.WIDTH.ensures) in
    let put : IsPutAt (at + from) width mid new = record { size = c.store.ensures.size; before = c.store.ensures.before; behind = c.store.ensures.behind } in
    record {
      within = omega (arith, c.min-from.ensures, c.requires.wide, c.WIDTH.ensures, c.WIDTH-in-by_vector.ensures);
      put = put_part at c.args.n (at + from) width c.args.out.now mid new (omega arith) (omega (arith, fits)) c.by_vector.invariant.put put;
      made = λ value other i d e lt has more.
          put_on (λ i v. IsBestLess level g.U.Extremum.merge value g.L.Extremum.merge other i (i + long) v) d at c.by_vector.done from width mid new (omega (arith, c.min-from.ensures)) put
          (λ i lt. record {
            high = g.P.Laned.lane c.best_of_taps-high.result i;
            low = g.P.Laned.lane c.best_of_taps-low.result i;
            greatest = c.best_of_taps-high.ensures value i d lt (λ j le. has (from + i + j) (omega (arith, lt, le, fits)));
            least = c.best_of_taps-low.ensures other i e lt (λ j le. more (from + i + j) (omega (arith, lt, le, fits)));
            less = ap level (c.store.ensures.put i d lt) ∙ c.less-less.ensures i lt;
          })
          (λ i lt. c.by_vector.invariant.made value other i d e lt has more) i (omega (arith, lt, c.WIDTH-in-by_vector.ensures));
    }

pub returns-clause-made : goal.returns-clause-made
returns-clause-made g c = λ value other i d e lt has more. c.by_vector.invariant.made value other i d e (omega (arith, lt)) has more
