use Rattle.std.proofs.Common.{not, ◌&&◌, ◌/◌, ◌%◌}
use Rattle.mw_grid.specs.Counts.{in_range}
use Rattle.mw_core_planes.specs.StepPlanes.{is_read, Swept}
use Rattle.mw_core_planes.proofs.dropping.drop_block.Given as goal

abbrev pub invariant-loop-row : goal.invariant-loop-row
invariant-loop-row l = Swept (λ v. in_range l.block.top l.row (v / l.columns) && in_range l.block.left l.block.right (v % l.columns) && not (is_read l.ready.board l.step v)) l.initial.plane l.plane
