use Rattle.std.proofs.Common.{ℕ, ◌+◌, ◌-◌, get_or, refl, arith}
use Rattle.mw_line_lent.proofs.Bests.{best_at}
use Rattle.mw_line_lent.proofs.rows.put_by_sixty_fours.Goals as goal

pub returns-clause-made : goal.returns-clause-made
returns-clause-made g c = λ i d lt.
    let across = c.args.boxes.across in
    let value : ℕ → g.row.P.Denot = λ j. get_or c.args.lines.now (c.args.from + j) d in
    best_at g.E.Extremum.merge value i (i + (across - 64 + 64)) i (i + across) _ _ refl (omega (arith, c.requires.across)) refl
    (c.put_across-2.ensures.made value i d lt (λ j less. c.put_across.ensures.made value j d (omega (arith, less, c.requires.across))
    (λ k small. c.put_sixteens.ensures.made k d (omega (arith, small, c.requires.across)))))
