use Rattle.std.proofs.Common.{◌/◌, ◌%◌, ◌&&◌}
use Rattle.mw_grid.specs.Counts.{in_range}
use Rattle.mw_grid.specs.Grids.{columns_of}
use Rattle.mw_ready.specs.Counters.{Lowers}
use Rattle.mw_ready.proofs.reads.lower_block.Given as goal

abbrev pub invariant-loop-row : goal.invariant-loop-row
invariant-loop-row l = Lowers (λ t. in_range l.block.top l.row (t / columns_of l.fn.grid) && in_range l.block.left l.block.right (t % columns_of l.fn.grid)) l.initial.counts l.counts
