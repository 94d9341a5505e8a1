use Rattle.std.proofs.Common.{take, not, ◌&&◌}
use Rattle.std.specs.List.{list_any}
use Rattle.mw_grid.specs.Blocks.{in_block}
use Rattle.mw_ready.specs.Boards.{is_source}
use Rattle.mw_core_planes.specs.StepPlanes.{is_read, SweptAll}
use Rattle.mw_core_planes.proofs.dropping.drop_in_sources.Given as goal

abbrev pub invariant-loop-i : goal.invariant-loop-i
invariant-loop-i l =
    SweptAll l.grid (λ k v. list_any (is_source k) (take l.i l.sources) && (in_block l.grid l.block v && not (is_read l.ready.board k v))) l.initial.places l.places
