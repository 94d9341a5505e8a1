use Rattle.std.proofs.Common.{◌≡◌, ℕ, ◌+◌, ◌*◌, ◌<◌, get_or, length}
use Rattle.mw_offset_lent.specs.EdgeCells.{edge_cell}
use Rattle.mw_offset_lent.proofs.edge_cells.lay_edge_rows.Given as goal

abbrev pub invariant-loop-q : goal.invariant-loop-q
invariant-loop-q g l = record {
  size : length l.cells ≡ length l.initial.cells;
  made : (q i : ℕ) → q < l.q → i < 4 * g.P.Laned.WIDTH → get_or l.cells (q * (4 * g.P.Laned.WIDTH) + i) l.neutral ≡ edge_cell l.neutral l.samples g.P.Laned.WIDTH (l.source.from + q * l.source.stride) i;
}
