use Rattle.mw_geodesic_labels.specs.Overwriting.{IsOverwritten}
use Rattle.mw_geodesic_labels.proofs.overwriting.write_places.Given as goal

abbrev pub invariant-loop-k : goal.invariant-loop-k
invariant-loop-k g l = IsOverwritten l.start l.k l.value l.initial.places l.places
