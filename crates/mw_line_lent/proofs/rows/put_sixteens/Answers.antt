use Rattle.std.proofs.Common.{ℕ, ◌+◌, get_or, refl, arith}
use Rattle.mw_line.proofs.Folds.{IsExtremum}
use Rattle.mw_line_lent.proofs.Bests.{best_one}
use Rattle.mw_line_lent.proofs.rows.put_sixteens.Goals as goal

pub returns-clause-made : goal.returns-clause-made
returns-clause-made g c = λ j d lt.
    let f = g.E.Extremum.merge in
    let laws : IsExtremum f = record { commutes = g.met.E.Extremum.commutes; associates = g.met.E.Extremum.associates; is_idempotent = g.met.E.Extremum.is_idempotent } in
    let value : ℕ → g.row.P.Denot = λ i. get_or c.args.lines.now (c.args.from + i) d in
    c.put_across-2.ensures.made value j d (omega (arith, lt)) (λ k small. c.put_across.ensures.made value k d (omega (arith, small, lt)) (λ m least. best_one f laws value m (m + 1) _ refl refl))
