use Rattle.std.proofs.Common.{◌≡◌, ℕ, ◌+◌, ◌≤◌, get_or, ap, arith, ◌∙◌}
use Rattle.mw_line_lent.specs.Boxes.{IsPutAt}
use Rattle.mw_line_lent.proofs.Puts.{put_none, put_on, put_part}
use Rattle.mw_line_lent.proofs.sheets.put_before.Goals as goal

pub by_vector-init : goal.by_vector-init
by_vector-init g c = record { within = omega arith; put = put_none c.args.at c.args.n c.args.sheet.now; made = λ i d lt. absurd (omega (arith, lt)) }

pub by_vector-preserved : goal.by_vector-preserved
by_vector-preserved g c =
    let f = g.E.Extremum.merge in
    let row = c.args.row in
    let at = c.args.at in
    let n = c.args.n in
    let from = c.min-from.result in
    let width = g.P.Laned.WIDTH in
    let old = c.args.sheet.now in
    let mid = c.by_vector.sheet in
    let new = c.store.new.out in
    let fits : from + width ≤ n = omega (arith, c.min-from.ensures, c.requires.wide, c.WIDTH.ensures) in
    let put : IsPutAt (at + from) width mid new = record { size = c.store.ensures.size; before = c.store.ensures.before; behind = c.store.ensures.behind } in
    record {
      within = omega (arith, c.min-from.ensures, c.requires.wide, c.WIDTH.ensures, c.WIDTH-in-by_vector.ensures);
      put = put_part at n (at + from) width old mid new (omega arith) (omega (arith, fits)) c.by_vector.invariant.put put;
      made = λ i d lt.
          put_on (λ i v. v ≡ f (get_or old (at + n + i) d) (get_or row.samples.now (row.from + i) d)) d at c.by_vector.done from width mid new (omega (arith, c.min-from.ensures)) put
          (λ i lt.
          let place : at + n + from + i ≡ at + n + (from + i) = omega arith in
          let there : row.from + from + i ≡ row.from + (from + i) = omega arith in
          c.store.ensures.put i d lt
          ∙ c.merged-best.ensures i lt
          ∙ ap (λ (t : g.row.P.Denot). f t (g.P.Laned.lane c.load-next.result i)) (c.load-last.ensures i d lt ∙ ap (λ (t : ℕ). get_or mid t d) place ∙ c.by_vector.invariant.put.behind (at + n + (from + i)) d (omega arith))
          ∙ ap (f (get_or old (at + n + (from + i)) d)) (c.load-next.ensures i d lt ∙ ap (λ (t : ℕ). get_or row.samples.now t d) there))
          (λ i lt. c.by_vector.invariant.made i d lt) i (omega (arith, lt, c.WIDTH-in-by_vector.ensures));
    }

pub returns-clause-made : goal.returns-clause-made
returns-clause-made g c = λ i d lt. c.by_vector.invariant.made i d (omega (arith, lt))
