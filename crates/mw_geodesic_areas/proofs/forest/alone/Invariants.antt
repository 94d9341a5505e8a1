use Rattle.std.proofs.Common.{◌≡◌, vec_len}
use Rattle.mw_geodesic_areas.specs.Forests.{EachByItself}
use Rattle.mw_geodesic_areas.proofs.forest.alone.Given as goal

abbrev pub invariant-loop-i : goal.invariant-loop-i
invariant-loop-i l = record {
  size : vec_len l.parent ≡ l.i;
  alone : EachByItself l.parent.items;
}
