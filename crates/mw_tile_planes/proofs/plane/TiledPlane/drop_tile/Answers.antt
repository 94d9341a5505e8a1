use Rattle.std.proofs.Common.{ap, List, None, Option, set, subst, sym, ◌∙◌}
use Rattle.mw_model.specs.Rasters.{Raster}
use Rattle.mw_tile_slots.specs.Tiles.{cells_of}
use Rattle.mw_tile_planes.specs.Held.{TilesAreHeld}
use Rattle.mw_tile_planes.specs.declared.plane.TiledPlane.TheInside.{Inside}
use Rattle.mw_tile_planes.proofs.Sides.{held_write}
use Rattle.mw_tile_planes.proofs.plane.TiledPlane.drop_tile.Goals as goal
use Rattle.mw_tile_planes.proofs.plane.TiledPlane.drop_tile.Goals.{in-Bits, in-Grey8, in-Grey16}

pub invariant_of-self : goal.invariant_of-self
invariant_of-self c = elim c.match-self.branch [
  | in-Bits w ↦
      let held = subst (TilesAreHeld c.self.inside.grid) w.in-Bits.is c.self.invariant in
      let items = w.in-Bits.tiles.items in
      let value = w.put.ensures.value ∙ ap (λ (t : List (Option (Raster _))). set (cells_of t) c.args.i None) w.deref_mut.ensures.value in
      let written = held_write 1 w.in-Bits.tiles.len c.args.i c.self.inside.grid items w.put.new.tiles None w.in-Bits.tiles.ok.0 held.0 w.put.ensures.sides value tt held.1 in
      subst (λ (s : Inside). TilesAreHeld s.grid s.content) (sym w.self-inside-is) written
  | in-Grey8 w ↦
      let held = subst (TilesAreHeld c.self.inside.grid) w.in-Grey8.is c.self.invariant in
      let items = w.in-Grey8.tiles.items in
      let value = w.put-in-Grey8.ensures.value ∙ ap (λ (t : List (Option (Raster _))). set (cells_of t) c.args.i None) w.deref_mut-in-Grey8.ensures.value in
      let written = held_write w.in-Grey8.field-1 w.in-Grey8.tiles.len c.args.i c.self.inside.grid items w.put-in-Grey8.new.tiles None w.in-Grey8.tiles.ok.0 held.0 w.put-in-Grey8.ensures.sides value tt held.1 in
      subst (λ (s : Inside). TilesAreHeld s.grid s.content) (sym w.self-inside-is) (written.0, written.1, held.2, held.3)
  | in-Grey16 w ↦
      let held = subst (TilesAreHeld c.self.inside.grid) w.in-Grey16.is c.self.invariant in
      let items = w.in-Grey16.tiles.items in
      let value = w.put-in-Grey16.ensures.value ∙ ap (λ (t : List (Option (Raster _))). set (cells_of t) c.args.i None) w.deref_mut-in-Grey16.ensures.value in
      let written = held_write w.in-Grey16.field-1 w.in-Grey16.tiles.len c.args.i c.self.inside.grid items w.put-in-Grey16.new.tiles None w.in-Grey16.tiles.ok.0 held.0 w.put-in-Grey16.ensures.sides value tt held.1 in
      subst (λ (s : Inside). TilesAreHeld s.grid s.content) (sym w.self-inside-is) (written.0, written.1, held.2)
]
