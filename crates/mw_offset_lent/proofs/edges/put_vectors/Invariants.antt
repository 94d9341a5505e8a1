use Rattle.std.proofs.Common.{◌≡◌, ℕ, ◌+◌, ◌*◌, ◌<◌, get_or}
use Rattle.mw_line_lent.specs.Boxes.{IsPutInRows}
use Rattle.mw_offset_lent.specs.Places.{merged_at}
use Rattle.mw_offset_lent.proofs.edges.put_vectors.Given as goal

abbrev pub invariant-loop-r : goal.invariant-loop-r
invariant-loop-r g l = record {
  put : IsPutInRows l.column.high l.column.at g.P.Laned.WIDTH l.column.apart l.initial.out l.out;
  made : (r i : ℕ) → r < l.r → i < g.P.Laned.WIDTH → get_or l.out (l.column.at + r * l.column.apart + i) l.neutral ≡ merged_at g.E.Extremum.merge l.cells l.neutral (r * l.wide + i) l.neutral l.places;
}
