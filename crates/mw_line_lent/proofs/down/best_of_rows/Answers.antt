use Rattle.std.proofs.Common.{◌≡◌, ℕ, ◌+◌, ◌*◌, get_or, refl, ap, arith, ◌∙◌}
use Rattle.mw_line.proofs.Folds.{IsExtremum}
use Rattle.mw_line_lent.proofs.Bests.{best_at, best_more, best_one}
use Rattle.mw_line_lent.proofs.down.best_of_rows.Goals as goal

pub loop-row-init : goal.loop-row-init
loop-row-init g c =
    let f = g.E.Extremum.merge in
    let laws : IsExtremum f = record { commutes = g.met.E.Extremum.commutes; associates = g.met.E.Extremum.associates; is_idempotent = g.met.E.Extremum.is_idempotent } in
    let rows = c.args.rows in
    let n = c.args.neutral in
    record {
      some = omega arith;
      within = omega (arith, c.requires.some);
      made = λ i d lt.
          let place : rows.from + c.args.at + i ≡ rows.from + 0 * rows.stride + (c.args.at + i) = omega arith in
          best_one f laws (λ j. f n (get_or rows.samples.now (rows.from + j * rows.stride + (c.args.at + i)) d)) 0 1 (g.P.Laned.lane c.merged-start.result i) (omega arith)
          (c.merged-start.ensures i lt ∙ ap (λ (t : g.row.P.Denot). f t (g.P.Laned.lane c.load-first.result i)) (c.all-sample.ensures i lt) ∙ ap (f n) (c.load-first.ensures i d lt ∙ ap (λ (t : ℕ). get_or rows.samples.now t d) place));
    }

pub loop-row-preserved : goal.loop-row-preserved
loop-row-preserved g c =
    let f = g.E.Extremum.merge in
    let laws : IsExtremum f = record { commutes = g.met.E.Extremum.commutes; associates = g.met.E.Extremum.associates; is_idempotent = g.met.E.Extremum.is_idempotent } in
    let rows = c.args.rows in
    let n = c.args.neutral in
    let row = c.loop-row.row in
    record {
      some = omega arith;
      within = omega arith;
      made = λ i d lt.
          let place : rows.from + c.args.at + row * rows.stride + i ≡ rows.from + row * rows.stride + (c.args.at + i) = omega arith in
          best_more f laws n (λ j. get_or rows.samples.now (rows.from + j * rows.stride + (c.args.at + i)) d) 0 row (row + 1) (g.P.Laned.lane c.loop-row.best i) _ (omega (arith, c.loop-row.invariant.some)) (omega arith)
          (c.merged-best.ensures i lt ∙ ap (f (g.P.Laned.lane c.loop-row.best i)) (c.load-next.ensures i d lt ∙ ap (λ (t : ℕ). get_or rows.samples.now t d) place))
          (c.loop-row.invariant.made i d lt);
    }

pub returns : goal.returns
returns g c = λ i d lt.
    let f = g.E.Extremum.merge in
    let rows = c.args.rows in
    best_at f (λ j. f c.args.neutral (get_or rows.samples.now (rows.from + j * rows.stride + (c.args.at + i)) d)) 0 c.loop-row.row 0 rows.count _ _ refl (omega (arith, c.loop-row.invariant.within)) refl (c.loop-row.invariant.made i d lt)
