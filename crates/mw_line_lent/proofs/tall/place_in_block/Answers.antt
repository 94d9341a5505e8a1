use Rattle.mw_line.proofs.Folds.{IsExtremum}
use Rattle.mw_line_lent.proofs.SheetLines.{parts_first}
use Rattle.mw_line_lent.proofs.tall.place_in_block.Goals as goal

pub returns-clause-parts : goal.returns-clause-parts
returns-clause-parts g c =
    let f = g.E.Extremum.merge in
    let laws : IsExtremum f = record { commutes = g.met.E.Extremum.commutes; associates = g.met.E.Extremum.associates; is_idempotent = g.met.E.Extremum.is_idempotent } in
    parts_first f laws c.args.neutral c.args.lent.now c.args.tall.boxes c.args.turn.y c.put_tails.new.sheet c.put_tails.ensures.sheet c.put_tails.ensures.tails
