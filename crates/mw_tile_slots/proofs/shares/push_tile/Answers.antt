use Rattle.std.proofs.Common.{Some, ap, sym, ◌∙◌}
use Rattle.std.specs.Arc.{arc_value}
use Rattle.mw_tile_pieces.specs.Patches.{Patch}
use Rattle.mw_tile_slots.specs.Tiles.{cells_of}
use Rattle.mw_tile_slots.proofs.Numbers.{found_at, stands_at}
use Rattle.mw_tile_slots.proofs.Sharing.{adds_missing, adds_tile, missing_at}
use Rattle.mw_tile_slots.proofs.Sides.{cells_at}
use Rattle.mw_tile_slots.proofs.shares.push_tile.Goals as goal

pub new-piece-requires-clause-width : goal.new-piece-requires-clause-width
new-piece-requires-clause-width g c =
    (stands_at c.args.grid c.args.tiles.now c.args.i c.index-tiles-i.result c.in-Some.placed (arc_value c.in_ok-plane-in-Some.plane) c.rect-place.result c.requires.sides c.index-tiles-i.is c.in-Some.is c.in_ok-plane-in-Some.ensures c.rect-place.ensures.value c.requires.within).width

pub new-piece-requires-clause-height : goal.new-piece-requires-clause-height
new-piece-requires-clause-height g c =
    (stands_at c.args.grid c.args.tiles.now c.args.i c.index-tiles-i.result c.in-Some.placed (arc_value c.in_ok-plane-in-Some.plane) c.rect-place.result c.requires.sides c.index-tiles-i.is c.in-Some.is c.in_ok-plane-in-Some.ensures c.rect-place.ensures.value c.requires.within).height

pub returns-in_ok-push-in-Some : goal.returns-in_ok-push-in-Some
returns-in_ok-push-in-Some g c =
    let p = c.new-piece.result in
    let found = found_at c.args.grid c.args.tiles.now c.args.i c.index-tiles-i.result c.in-Some.placed (arc_value c.in_ok-plane-in-Some.plane) c.requires.sides c.index-tiles-i.is c.in-Some.is c.in_ok-plane-in-Some.ensures c.requires.within in
    adds_tile c.args.grid (cells_of c.args.tiles.now) c.args.i c.args.pieces.now.items _ p c.requires.within (ap (λ (q : Patch _). q.place) c.new-piece.ensures.value ∙ c.rect-place.ensures.value)
    (cells_at c.args.tiles.now c.args.i (arc_value c.in_ok-plane-in-Some.plane) found ∙ ap Some (ap (λ (q : Patch _). q.cells) (sym c.new-piece.ensures.value))) c.in_ok-push-in-Some.ensures.items

pub returns-in-None : goal.returns-in-None
returns-in-None g c =
    adds_missing c.args.grid (cells_of c.args.tiles.now) c.args.i c.args.pieces.now.items (missing_at c.args.grid c.args.tiles.now c.args.i c.index-tiles-i.result c.requires.sides c.index-tiles-i.is c.in-None.is c.requires.within)
