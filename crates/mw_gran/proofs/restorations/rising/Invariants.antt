use Rattle.mw_gran.specs.Turns.{HasLevels}
use Rattle.mw_gran.proofs.restorations.rising.Given as goal

abbrev pub invariant-loop-done : goal.invariant-loop-done
invariant-loop-done l = HasLevels l.done l.plan
