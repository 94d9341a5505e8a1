use Rattle.std.proofs.Common.{ap, List, Option, set, Some, subst, sym, ◌∙◌}
use Rattle.std.specs.Arc.{arc_value}
use Rattle.mw_model.specs.Rasters.{Raster}
use Rattle.mw_tile_slots.specs.Tiles.{cells_of}
use Rattle.mw_tile_planes.specs.Tiles.{Tiled}
use Rattle.mw_tile_planes.specs.Held.{image_of_tile, TilesAreHeld, tiled_held}
use Rattle.mw_tile_planes.specs.declared.plane.Samples.{Samples}
use Rattle.mw_tile_planes.specs.declared.tile.Tile.{Tile}
use Rattle.mw_tile_planes.proofs.Sides.{bounded_tile, held_write}
use Rattle.mw_tile_planes.proofs.plane.TiledPlane.place.Goals as goal

pub invariant_of-self : goal.invariant_of-self
invariant_of-self c =
    let held = subst (TilesAreHeld c.self.inside.grid) c.in-Bits-content.is c.self.invariant in
    let items = c.in-Bits-content.tiles.items in
    let cells = (arc_value c.in-Bits.plane).cells in
    let level-is =
    c.requires.maxval ∙ ap (λ (p : Tiled). p.maxval) (sym c.self.view_is) ∙ ap (λ (s : Samples). (tiled_held c.self.inside.grid s).maxval) c.in-Bits-content.is
    in
    let fits = bounded_tile c.args.tile 1 cells c.requires.bounded (ap (λ (t : Tile). (image_of_tile t).samples) c.in-Bits.is) level-is in
    let value =
    c.put.ensures.value
    ∙ ap (λ (t : List (Option (Raster _))). set (cells_of t) c.args.i (Some c.new.result.cells)) c.deref_mut.ensures.value
    ∙ ap (λ (t : Raster _). set (cells_of items) c.args.i (Some t.cells)) c.new.ensures.value
    in
    let written = held_write 1 c.in-Bits-content.tiles.len c.args.i c.self.inside.grid items c.put.new.tiles (Some cells) c.in-Bits-content.tiles.ok.0 held.0 c.put.ensures.sides value fits held.1 in
    written

pub invariant_of-self-in-Grey8-content : goal.invariant_of-self-in-Grey8-content
invariant_of-self-in-Grey8-content c =
    let held = subst (TilesAreHeld c.self.inside.grid) c.in-Grey8-content.is c.self.invariant in
    let items = c.in-Grey8-content.tiles.items in
    let cells = (arc_value c.in-Grey8.plane).cells in
    let level-is =
    c.requires.maxval ∙ ap (λ (p : Tiled). p.maxval) (sym c.self.view_is) ∙ ap (λ (s : Samples). (tiled_held c.self.inside.grid s).maxval) c.in-Grey8-content.is
    in
    let fits = bounded_tile c.args.tile c.in-Grey8-content.field-1 cells c.requires.bounded (ap (λ (t : Tile). (image_of_tile t).samples) c.in-Grey8.is) level-is in
    let value =
    c.put-in-Grey8-content.ensures.value
    ∙ ap (λ (t : List (Option (Raster _))). set (cells_of t) c.args.i (Some c.new-in-Grey8-content.result.cells)) c.deref_mut-in-Grey8-content.ensures.value
    ∙ ap (λ (t : Raster _). set (cells_of items) c.args.i (Some t.cells)) c.new-in-Grey8-content.ensures.value
    in
    let written = held_write c.in-Grey8-content.field-1 c.in-Grey8-content.tiles.len c.args.i c.self.inside.grid items c.put-in-Grey8-content.new.tiles (Some cells) c.in-Grey8-content.tiles.ok.0 held.0 c.put-in-Grey8-content.ensures.sides value fits held.1 in
    (written.0, written.1, held.2, held.3)

pub invariant_of-self-in-Grey16-content : goal.invariant_of-self-in-Grey16-content
invariant_of-self-in-Grey16-content c =
    let held = subst (TilesAreHeld c.self.inside.grid) c.in-Grey16-content.is c.self.invariant in
    let items = c.in-Grey16-content.tiles.items in
    let cells = (arc_value c.in-Grey16.plane).cells in
    let level-is =
    c.requires.maxval ∙ ap (λ (p : Tiled). p.maxval) (sym c.self.view_is) ∙ ap (λ (s : Samples). (tiled_held c.self.inside.grid s).maxval) c.in-Grey16-content.is
    in
    let fits = bounded_tile c.args.tile c.in-Grey16-content.field-1 cells c.requires.bounded (ap (λ (t : Tile). (image_of_tile t).samples) c.in-Grey16.is) level-is in
    let value =
    c.put-in-Grey16-content.ensures.value
    ∙ ap (λ (t : List (Option (Raster _))). set (cells_of t) c.args.i (Some c.new-in-Grey16-content.result.cells)) c.deref_mut-in-Grey16-content.ensures.value
    ∙ ap (λ (t : Raster _). set (cells_of items) c.args.i (Some t.cells)) c.new-in-Grey16-content.ensures.value
    in
    let written = held_write c.in-Grey16-content.field-1 c.in-Grey16-content.tiles.len c.args.i c.self.inside.grid items c.put-in-Grey16-content.new.tiles (Some cells) c.in-Grey16-content.tiles.ok.0 held.0 c.put-in-Grey16-content.ensures.sides value fits held.1 in
    (written.0, written.1, held.2)
