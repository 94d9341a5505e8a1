use Rattle.std.proofs.Common.{ℕ, ◌+◌, ◌-◌, get_or, refl, arith}
use Rattle.mw_line.proofs.Folds.{IsExtremum}
use Rattle.mw_line_lent.proofs.Bests.{best_at, best_one}
use Rattle.mw_line_lent.proofs.rows.put_row.Goals as goal

pub returns-clause-made : goal.returns-clause-made
returns-clause-made g c = λ i d lt.
    let f = g.E.Extremum.merge in
    let laws : IsExtremum f = record { commutes = g.met.E.Extremum.commutes; associates = g.met.E.Extremum.associates; is_idempotent = g.met.E.Extremum.is_idempotent } in
    let across = c.args.boxes.across in
    let value : ℕ → g.row.P.Denot = λ j. get_or c.args.lines.now (c.args.from + j) d in
    best_at f value i (i + (across - 1 + 1)) i (i + across) _ _ refl (omega (arith, c.requires.suited.across)) refl (c.put_across.ensures.made value i d lt (λ j less. best_one f laws value j (j + 1) _ refl refl))
