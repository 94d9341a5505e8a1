use Rattle.std.proofs.Common.{◌≡◌, take}
use Rattle.mw_element.proofs.runs.same.Given as goal

abbrev pub invariant-runs : goal.invariant-runs
invariant-runs l = take l.i l.first ≡ take l.i l.second
