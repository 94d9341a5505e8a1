use Rattle.mw_offset_lent.specs.Splits.{IsShift}
use Rattle.mw_offset_lent.proofs.shifts.best_shift.Given as goal

abbrev pub invariant-loop-columns : goal.invariant-loop-columns
invariant-loop-columns l = IsShift l.best
