use Rattle.std.proofs.Common.{List, [], ◌∷◌, ◌++◌, pos, take, ap, ◌∙◌}
use Rattle.mw_element_runs.specs.declared.runs.Run.{Run}
use Rattle.mw_element.specs.Told.{turned_runs}
use Rattle.mw_element.proofs.Turned.{turned_more}
use Rattle.mw_element.proofs.runs.turn.Goals as goal

pub runs-preserved : goal.runs-preserved
runs-preserved c =
    let none : Run = record { dx = pos 0; dy = pos 0; count = 0 } in
    let runs = c.args.runs.now in
    turned_more runs c.push.new.self.items c.runs.i none c.runs-test.true
    (c.in_ok-push.ensures.items ∙ ap (λ (t : List Run). t ++ c.turn_one.result ∷ []) c.runs.invariant ∙ ap (λ (t : Run). take c.runs.i (turned_runs runs) ++ t ∷ []) c.turn_one.ensures)
