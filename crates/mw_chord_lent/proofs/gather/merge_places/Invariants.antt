use Rattle.std.proofs.Common.{◌≡◌, ℕ, ◌+◌, ◌<◌, take}
use Rattle.mw_chord_lent.specs.Placed.{gathered_at}
use Rattle.mw_chord_lent.proofs.gather.merge_places.Given as goal

abbrev pub invariant-loop-place : goal.invariant-loop-place
invariant-loop-place g l = record {
  first : (i : ℕ) → i < g.P.Laned.WIDTH → g.P.Laned.lane l.first i ≡ gathered_at g.E.Extremum.merge l.lists l.fn.neutral (l.from + i) l.fn.neutral (take l.place-index l.places);
  second : (i : ℕ) → i < g.P.Laned.WIDTH → g.P.Laned.lane l.second i ≡ gathered_at g.E.Extremum.merge l.lists l.fn.neutral (l.from + g.P.Laned.WIDTH + i) l.fn.neutral (take l.place-index l.places);
}
