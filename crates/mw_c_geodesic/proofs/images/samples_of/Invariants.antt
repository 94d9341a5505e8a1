use Rattle.std.proofs.Common.{◌≡◌, take}
use Rattle.mw_c_arrays.specs.Sources.{picture_in}
use Rattle.mw_c_geodesic.proofs.images.samples_of.Given as goal

abbrev pub invariant-loop-at : goal.invariant-loop-at
invariant-loop-at l = l.samples.items ≡ take l.at (picture_in l.f).samples
