use Rattle.std.proofs.Common.{◌≡◌, ℕ, ◌+◌, ◌<◌, take}
use Rattle.mw_offset_lent.specs.Places.{merged_at}
use Rattle.mw_offset_lent.proofs.blocks.merge_places.Given as goal

abbrev pub invariant-loop-place : goal.invariant-loop-place
invariant-loop-place g l = record {
  first : (i : ℕ) (d : g.row.P.Denot) → i < g.P.Laned.WIDTH → g.P.Laned.lane l.first i ≡ merged_at g.E.Extremum.merge l.cells d (l.at + i) (g.P.Laned.lane l.fn.best.0 i) (take l.place-index l.places);
  second : (i : ℕ) (d : g.row.P.Denot) → i < g.P.Laned.WIDTH → g.P.Laned.lane l.second i ≡ merged_at g.E.Extremum.merge l.cells d (l.at + g.P.Laned.WIDTH + i) (g.P.Laned.lane l.fn.best.1 i) (take l.place-index l.places);
}
