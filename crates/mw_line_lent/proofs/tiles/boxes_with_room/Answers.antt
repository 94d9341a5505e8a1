use Rattle.std.proofs.Common.{◌∙◌, sym, subst}
use Rattle.mw_model.specs.declared.offsets.Rect.{Rect}
use Rattle.mw_model.specs.Rectangles.{box_offsets}
use Rattle.mw_model.specs.Rasters.{raster}
use Rattle.mw_line.proofs.Folds.{IsExtremum}
use Rattle.mw_line.proofs.Tiles.{on_frame}
use Rattle.mw_line_lent.specs.Boxes.{IsSuited}
use Rattle.mw_line_lent.specs.Near.{StandsInside}
use Rattle.mw_line_lent.proofs.Near.{boxes_made, near_suited}
use Rattle.mw_line_lent.proofs.tiles.boxes_with_room.Goals as goal

pub put_in_room-requires-clause-suited : goal.put_in_room-requires-clause-suited
put_in_room-requires-clause-suited g c =
    let here : StandsInside c.place.result c.args.tile = subst (λ (t : Rect). StandsInside t c.args.tile) (sym c.place.ensures.value) c.requires.stands in
    near_suited g.P.Laned.WIDTH c.place.result c.args.tile c.args.offsets c.boxes_of-boxes.result g.met.P.Laned.is_narrow c.requires.around here c.boxes_of-boxes.ensures

pub returns-clause-over_window : goal.returns-clause-over_window
returns-clause-over_window g c =
    let f = g.E.Extremum.merge in
    let laws : IsExtremum f = record { commutes = g.met.E.Extremum.commutes; associates = g.met.E.Extremum.associates; is_idempotent = g.met.E.Extremum.is_idempotent } in
    let here : StandsInside c.place.result c.args.tile = subst (λ (t : Rect). StandsInside t c.args.tile) (sym c.place.ensures.value) c.requires.stands in
    let suited : IsSuited g.P.Laned.WIDTH c.boxes_of-boxes.result = near_suited g.P.Laned.WIDTH c.place.result c.args.tile c.args.offsets c.boxes_of-boxes.result g.met.P.Laned.is_narrow c.requires.around here c.boxes_of-boxes.ensures in
    boxes_made f laws c.args.neutral c.args.lent.now c.place.result c.args.offsets c.args.tile c.boxes_of-boxes.result c.put_in_room.new.out c.place.ensures.value suited.across suited.down c.boxes_of-boxes.ensures (c.put_in_room.ensures.size ∙ c.requires.room) c.put_in_room.ensures.made

pub returns-clause-over_frame : goal.returns-clause-over_frame
returns-clause-over_frame g c = λ f window.
    on_frame g.E.Extremum.merge c.args.neutral c.args.lent.now f (box_offsets c.args.offsets) c.args.tile (raster c.args.tile.width c.args.tile.height c.put_in_room.new.out) (returns-clause-over_window g c) window
