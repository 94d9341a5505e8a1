use Rattle.std.proofs.Common.{ℕ, ◌+◌, ◌-◌, get_or, refl, arith}
use Rattle.mw_line.proofs.Folds.{IsExtremum}
use Rattle.mw_line_lent.proofs.Bests.{best_one}
use Rattle.mw_line_lent.proofs.Subtracted.{best_less_at}
use Rattle.mw_line_lent.proofs.less.put_row_less.Goals as goal

pub returns-clause-made : goal.returns-clause-made
returns-clause-made g c = λ i d e lt.
    let f = g.U.Extremum.merge in
    let laws : IsExtremum f = record { commutes = g.met.U.Extremum.commutes; associates = g.met.U.Extremum.associates; is_idempotent = g.met.U.Extremum.is_idempotent } in
    let h = g.L.Extremum.merge in
    let others : IsExtremum h = record { commutes = g.met.L.Extremum.commutes; associates = g.met.L.Extremum.associates; is_idempotent = g.met.L.Extremum.is_idempotent } in
    let across = c.args.boxes.across in
    let value : ℕ → g.row.P.Denot = λ j. get_or c.args.lines.uppers.now (c.args.from + j) d in
    let other : ℕ → g.row.P.Denot = λ j. get_or c.args.lines.lowers.now (c.args.from + j) e in
    best_less_at g.P.Pixel.level f value h other i (i + (across - 1 + 1)) (i + across) _ (omega (arith, c.requires.suited.across))
    (c.put_across_less.ensures.made value other i d e lt (λ j less. best_one f laws value j (j + 1) _ refl refl) (λ j less. best_one h others other j (j + 1) _ refl refl))
