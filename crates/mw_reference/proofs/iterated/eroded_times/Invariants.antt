use Rattle.std.proofs.Common.{◌≡◌}
use Rattle.mw_model.specs.Flat.{erosion}
use Rattle.mw_model.specs.Iterates.{times}
use Rattle.mw_reference.proofs.iterated.eroded_times.Given as goal

abbrev pub invariant-loop-i : goal.invariant-loop-i
invariant-loop-i l = l.f ≡ times l._i (erosion l.element) l.image
