use Rattle.std.proofs.Common.{not, ◌&&◌}
use Rattle.mw_grid.specs.Counts.{in_range}
use Rattle.mw_core_planes.specs.StepPlanes.{is_read, Swept}
use Rattle.mw_core_planes.proofs.dropping.drop_row.Given as goal

abbrev pub invariant-loop-tile : goal.invariant-loop-tile
invariant-loop-tile l = Swept (λ v. in_range l.from l.tile v && not (is_read l.ready.board l.step v)) l.initial.plane l.plane
