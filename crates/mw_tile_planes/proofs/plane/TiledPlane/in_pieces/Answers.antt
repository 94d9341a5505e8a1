use Rattle.std.proofs.Common.{ap, sym, ◌∙◌}
use Rattle.mw_model.specs.declared.shapes.Kind.TheVariants as kind
use Rattle.mw_tile_planes.specs.Held.{tiled, tiled_held}
use Rattle.mw_tile_planes.proofs.Windows.{all_placed, shared_is}
use Rattle.mw_tile_planes.proofs.plane.TiledPlane.in_pieces.Goals as goal

pub pieces_of-requires-clause-placed : goal.pieces_of-requires-clause-placed
pieces_of-requires-clause-placed c =
    let g = c.self.inside.grid in
    all_placed kind.Bit 1 g c.deref.result.now c.args.self.now c.args.rect (ap (tiled kind.Bit 1 g) c.deref.ensures.value ∙ ap (tiled_held g) (sym c.in-Bits.is) ∙ c.self.view_is) c.requires.placed

pub returns-in_ok-pieces-in-Bits : goal.returns-in_ok-pieces-in-Bits
returns-in_ok-pieces-in-Bits c = λ f plane.
    let g = c.self.inside.grid in
    c.bits.ensures ∙ shared_is kind.Bit 1 g c.deref.result.now c.args.self.now c.in_ok-pieces-in-Bits.pieces c.args.rect (ap (tiled kind.Bit 1 g) c.deref.ensures.value ∙ ap (tiled_held g) (sym c.in-Bits.is) ∙ c.self.view_is) c.in_ok-pieces-in-Bits.ensures.place c.requires.within c.in_ok-pieces-in-Bits.ensures.shows f plane

pub pieces_of-requires-in-Grey8-clause-placed : goal.pieces_of-requires-in-Grey8-clause-placed
pieces_of-requires-in-Grey8-clause-placed c =
    let g = c.self.inside.grid in
    all_placed kind.Grey c.in-Grey8.maxval g c.deref-in-Grey8.result.now c.args.self.now c.args.rect (ap (tiled kind.Grey c.in-Grey8.maxval g) c.deref-in-Grey8.ensures.value ∙ ap (tiled_held g) (sym c.in-Grey8.is) ∙ c.self.view_is) c.requires.placed

pub returns-in_ok-pieces-in-Grey8 : goal.returns-in_ok-pieces-in-Grey8
returns-in_ok-pieces-in-Grey8 c = λ f plane.
    let g = c.self.inside.grid in
    c.grey8.ensures ∙ shared_is kind.Grey c.in-Grey8.maxval g c.deref-in-Grey8.result.now c.args.self.now c.in_ok-pieces-in-Grey8.pieces c.args.rect (ap (tiled kind.Grey c.in-Grey8.maxval g) c.deref-in-Grey8.ensures.value ∙ ap (tiled_held g) (sym c.in-Grey8.is) ∙ c.self.view_is) c.in_ok-pieces-in-Grey8.ensures.place c.requires.within c.in_ok-pieces-in-Grey8.ensures.shows f plane

pub pieces_of-requires-in-Grey16-clause-placed : goal.pieces_of-requires-in-Grey16-clause-placed
pieces_of-requires-in-Grey16-clause-placed c =
    let g = c.self.inside.grid in
    all_placed kind.Grey c.in-Grey16.maxval g c.deref-in-Grey16.result.now c.args.self.now c.args.rect (ap (tiled kind.Grey c.in-Grey16.maxval g) c.deref-in-Grey16.ensures.value ∙ ap (tiled_held g) (sym c.in-Grey16.is) ∙ c.self.view_is) c.requires.placed

pub returns-in_ok-pieces-in-Grey16 : goal.returns-in_ok-pieces-in-Grey16
returns-in_ok-pieces-in-Grey16 c = λ f plane.
    let g = c.self.inside.grid in
    c.grey16.ensures ∙ shared_is kind.Grey c.in-Grey16.maxval g c.deref-in-Grey16.result.now c.args.self.now c.in_ok-pieces-in-Grey16.pieces c.args.rect (ap (tiled kind.Grey c.in-Grey16.maxval g) c.deref-in-Grey16.ensures.value ∙ ap (tiled_held g) (sym c.in-Grey16.is) ∙ c.self.view_is) c.in_ok-pieces-in-Grey16.ensures.place c.requires.within c.in_ok-pieces-in-Grey16.ensures.shows f plane
