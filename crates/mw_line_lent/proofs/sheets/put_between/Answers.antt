use Rattle.std.proofs.Common.{◌≡◌, ℕ, ◌+◌, ◌<◌, ◌≤◌, get_or, ap, arith, ◌∙◌}
use Rattle.mw_line_lent.specs.Boxes.{IsPutAt}
use Rattle.mw_line_lent.proofs.Puts.{put_none, put_on, put_part}
use Rattle.mw_line_lent.proofs.sheets.put_between.Goals as goal

pub by_vector-init : goal.by_vector-init
by_vector-init g c = record {
  within = omega arith;
  put = put_none (c.args.at + c.args.n) c.args.n c.args.sheet.now;
  made = λ i d lt. absurd (omega (arith, lt));
  line_put = put_none c.args.to c.args.n c.args.out.now;
  line = λ i d lt. absurd (omega (arith, lt));
}

pub by_vector-preserved : goal.by_vector-preserved
by_vector-preserved g c =
    let f = g.E.Extremum.merge in
    let lane = g.P.Laned.lane in
    let row = c.args.row in
    let at = c.args.at in
    let n = c.args.n in
    let to = c.args.to in
    let from = c.min-from.result in
    let width = g.P.Laned.WIDTH in
    let old = c.args.sheet.now in
    let mid = c.by_vector.sheet in
    let new = c.store-in-by_vector.new.out in
    let line = c.by_vector.out in
    let lined = c.store.new.out in
    let fits : from + width ≤ n = omega (arith, c.min-from.ensures, c.requires.wide, c.WIDTH.ensures) in
    let put : IsPutAt (at + n + from) width mid new = record { size = c.store-in-by_vector.ensures.size; before = c.store-in-by_vector.ensures.before; behind = c.store-in-by_vector.ensures.behind } in
    let line_put : IsPutAt (to + from) width line lined = record { size = c.store.ensures.size; before = c.store.ensures.before; behind = c.store.ensures.behind } in
    let head : (i : ℕ) (d : g.row.P.Denot) → i < width → lane c.load-head.result i ≡ get_or old (at + (from + i)) d = λ i d lt.
    let place : at + from + i ≡ at + (from + i) = omega arith in
    c.load-head.ensures i d lt ∙ ap (λ (t : ℕ). get_or mid t d) place ∙ c.by_vector.invariant.put.before (at + (from + i)) d (omega (arith, lt, fits)) in
    let tail : (i : ℕ) (d : g.row.P.Denot) → i < width → lane c.load-tail.result i ≡ get_or old (at + n + n + (from + i)) d = λ i d lt.
    let place : at + n + n + from + i ≡ at + n + n + (from + i) = omega arith in
    c.load-tail.ensures i d lt ∙ ap (λ (t : ℕ). get_or mid t d) place ∙ c.by_vector.invariant.put.behind (at + n + n + (from + i)) d (omega arith) in
    let next : (i : ℕ) (d : g.row.P.Denot) → i < width → lane c.load-next.result i ≡ get_or row.samples.now (row.from + (from + i)) d = λ i d lt.
    let place : row.from + from + i ≡ row.from + (from + i) = omega arith in
    c.load-next.ensures i d lt ∙ ap (λ (t : ℕ). get_or row.samples.now t d) place in
    record {
      within = omega (arith, c.min-from.ensures, c.requires.wide, c.WIDTH.ensures, c.WIDTH-in-by_vector.ensures);
      put = put_part (at + n) n (at + n + from) width old mid new (omega arith) (omega (arith, fits)) c.by_vector.invariant.put put;
      made = λ i d lt.
          put_on (λ i v. v ≡ f (get_or old (at + i) d) (get_or row.samples.now (row.from + i) d)) d (at + n) c.by_vector.done from width mid new (omega (arith, c.min-from.ensures)) put
          (λ i lt.
          c.store-in-by_vector.ensures.put i d lt
          ∙ c.merged-more.ensures i lt
          ∙ ap (λ (t : g.row.P.Denot). f t (lane c.load-next.result i)) (head i d lt)
          ∙ ap (f (get_or old (at + (from + i)) d)) (next i d lt))
          (λ i lt. c.by_vector.invariant.made i d lt) i (omega (arith, lt, c.WIDTH-in-by_vector.ensures));
      line_put = put_part to n (to + from) width c.args.out.now line lined (omega arith) (omega (arith, fits)) c.by_vector.invariant.line_put line_put;
      line = λ i d lt.
          put_on (λ i v. v ≡ f (get_or old (at + i) d) (get_or old (at + n + n + i) d)) d to c.by_vector.done from width line lined (omega (arith, c.min-from.ensures)) line_put
          (λ i lt.
          c.store.ensures.put i d lt
          ∙ c.merged-whole.ensures i lt
          ∙ ap (λ (t : g.row.P.Denot). f t (lane c.load-tail.result i)) (head i d lt)
          ∙ ap (f (get_or old (at + (from + i)) d)) (tail i d lt))
          (λ i lt. c.by_vector.invariant.line i d lt) i (omega (arith, lt, c.WIDTH-in-by_vector.ensures));
    }

pub returns-clause-made : goal.returns-clause-made
returns-clause-made g c = λ i d lt. c.by_vector.invariant.made i d (omega (arith, lt))

pub returns-clause-line : goal.returns-clause-line
returns-clause-line g c = λ i d lt. c.by_vector.invariant.line i d (omega (arith, lt))
