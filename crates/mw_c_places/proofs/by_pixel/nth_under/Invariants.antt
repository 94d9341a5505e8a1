use Rattle.std.proofs.Common.{◌-◌, ◌<◌, ◌≤◌}
use Rattle.mw_model.specs.Flat.{under}
use Rattle.mw_model.proofs.Ranks.{count_under}
use Rattle.mw_c_places.proofs.by_pixel.nth_under.Given as goal

abbrev pub invariant-halves : goal.invariant-halves
invariant-halves g l = record {
  order : l.low < l.high;
  top : l.high ≤ 65536;
  below : count_under l.low (under (g.S.Levels.image l.f) l.offsets l.x l.y) < l.n;
  above : l.n ≤ count_under l.high (under (g.S.Levels.image l.f) l.offsets l.x l.y);
}

abbrev pub decreases-halves : goal.decreases-halves
decreases-halves g l = l.high - l.low
