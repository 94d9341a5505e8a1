use Rattle.std.proofs.Common.{◌≡◌, ℕ, ◌+◌, ◌*◌, ◌<◌, take}
use Rattle.mw_offset_lent.specs.Places.{merged_at}
use Rattle.mw_offset_lent.proofs.wide.merge_four.Given as goal

abbrev pub invariant-loop-i : goal.invariant-loop-i
invariant-loop-i g l = record {
  first : (i : ℕ) (d : g.row.P.Denot) → i < g.P.Laned.WIDTH → g.P.Laned.lane l.first i ≡ merged_at g.E.Extremum.merge l.cells d (l.at + i) (g.P.Laned.lane l.fn.best.first i) (take l.i l.places);
  second : (i : ℕ) (d : g.row.P.Denot) → i < g.P.Laned.WIDTH → g.P.Laned.lane l.second i ≡ merged_at g.E.Extremum.merge l.cells d (l.at + g.P.Laned.WIDTH + i) (g.P.Laned.lane l.fn.best.second i) (take l.i l.places);
  third : (i : ℕ) (d : g.row.P.Denot) → i < g.P.Laned.WIDTH → g.P.Laned.lane l.third i ≡ merged_at g.E.Extremum.merge l.cells d (l.at + 2 * g.P.Laned.WIDTH + i) (g.P.Laned.lane l.fn.best.third i) (take l.i l.places);
  fourth : (i : ℕ) (d : g.row.P.Denot) → i < g.P.Laned.WIDTH → g.P.Laned.lane l.fourth i ≡ merged_at g.E.Extremum.merge l.cells d (l.at + 2 * g.P.Laned.WIDTH + g.P.Laned.WIDTH + i) (g.P.Laned.lane l.fn.best.fourth i) (take l.i l.places);
}
