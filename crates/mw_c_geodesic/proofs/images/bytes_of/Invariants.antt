use Rattle.std.proofs.Common.{◌≡◌, take}
use Rattle.mw_c_geodesic.proofs.images.bytes_of.Given as goal

abbrev pub invariant-loop-i : goal.invariant-loop-i
invariant-loop-i l = l.bytes.items ≡ take l.i l.samples
