use Rattle.std.proofs.Common.{◌≡◌}
use Rattle.mw_model.specs.Iterates.{restoration}
use Rattle.mw_reference.proofs.iterated.restoration.Given as goal

abbrev pub invariant-loop-n : goal.invariant-loop-n
invariant-loop-n l = l.restored ≡ restoration l.element l.n l.marks
