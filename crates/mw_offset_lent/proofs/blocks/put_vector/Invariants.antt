use Rattle.std.proofs.Common.{◌≡◌, ℕ, ◌+◌, ◌<◌, take}
use Rattle.mw_offset_lent.specs.Places.{merged_at}
use Rattle.mw_offset_lent.proofs.blocks.put_vector.Given as goal

abbrev pub invariant-loop-place : goal.invariant-loop-place
invariant-loop-place g l = (i : ℕ) → i < g.P.Laned.WIDTH → g.P.Laned.lane l.best i ≡ merged_at g.E.Extremum.merge l.cells l.fn.neutral (l.from + i) l.fn.neutral (take l.place-index l.places)
