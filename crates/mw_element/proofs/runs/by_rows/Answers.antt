use Rattle.std.proofs.Common.{List, false, subst, sym}
use Rattle.mw_element_runs.specs.declared.runs.Run.{Run}
use Rattle.mw_element.specs.Told.{TellsRuns}
use Rattle.mw_element.proofs.Turned.{runs_of_rows}
use Rattle.mw_element.proofs.runs.by_rows.Goals as goal

pub returns : goal.returns
returns c =
    let offsets = c.args.offsets.now in
    let known = c.in_ok-runs.ensures in
    subst (λ (rs : List Run). TellsRuns false rs offsets) (sym c.shrink_to_fit.ensures.items) (runs_of_rows offsets c.in_ok-runs.runs.items c.requires known.offsets known.runs known.longest)
