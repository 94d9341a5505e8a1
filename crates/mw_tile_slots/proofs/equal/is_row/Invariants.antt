use Rattle.std.proofs.Common.{◌-◌, ◌≤◌}
use Rattle.mw_model.specs.Rasters.{Raster}
use Rattle.mw_tile_slots.specs.Tiles.{cells_of, ShowsRun, ShowsTiles}
use Rattle.mw_tile_slots.proofs.equal.is_row.Given as goal

abbrev pub invariant-parts : goal.invariant-parts
invariant-parts g l = record {
  from : l.x ≤ l.at;
  to : l.at ≤ l.end;
  same : (f : Raster _) → ShowsTiles l.grid (cells_of l.tiles) f → ShowsRun f l.piece l.x l.y (l.at - l.x);
}

abbrev pub decreases-parts : goal.decreases-parts
decreases-parts g l = l.end - l.at
