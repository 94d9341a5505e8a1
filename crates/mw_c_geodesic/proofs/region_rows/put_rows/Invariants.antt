use Rattle.std.proofs.Common.{◌≡◌, ◌*◌, ◌++◌, take, drop}
use Rattle.mw_geodesic_labels.specs.Regions.{region_rows}
use Rattle.mw_c_geodesic.proofs.region_rows.put_rows.Given as goal

abbrev pub invariant-loop-k : goal.invariant-loop-k
invariant-loop-k l = l.out ≡ region_rows (take l.k l.regions) ++ drop (7 * l.k) l.fn.out
