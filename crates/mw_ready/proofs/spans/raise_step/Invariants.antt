use Rattle.std.proofs.Common.{◌+◌, ◌*◌, ◌%◌}
use Rattle.mw_grid.specs.Counts.{bit, in_range}
use Rattle.mw_grid.specs.Grids.{columns_of, tile_count}
use Rattle.mw_ready.specs.Counters.{Raises}
use Rattle.mw_ready.specs.Spans.{tiles_spanned}
use Rattle.mw_ready.proofs.spans.raise_step.Given as goal

abbrev pub invariant-loop-row : goal.invariant-loop-row
invariant-loop-row l =
    Raises (λ u. bit (in_range (l.step * tile_count l.fn.grid) (l.step * tile_count l.fn.grid + l.row * columns_of l.fn.grid) u) * (l.times * tiles_spanned l.fn.grid l.spans (u % tile_count l.fn.grid))) l.initial.counts l.counts
