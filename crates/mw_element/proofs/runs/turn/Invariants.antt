use Rattle.std.proofs.Common.{◌≡◌, take}
use Rattle.mw_element.specs.Told.{turned_runs}
use Rattle.mw_element.proofs.runs.turn.Given as goal

abbrev pub invariant-runs : goal.invariant-runs
invariant-runs l = l.turned.items ≡ take l.i (turned_runs l.runs)
