use Rattle.std.proofs.Common.{◌≡◌, drop}
use Rattle.mw_model.specs.Refusals.{first_of}
use Rattle.mw_c_arrays.proofs.cases.first_of.Given as goal

abbrev pub invariant-cases : goal.invariant-cases
invariant-cases l = first_of l.cases ≡ first_of (drop l.case-index l.cases)
