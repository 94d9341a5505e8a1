use Rattle.mw_tile_planes.proofs.Filled.{window_bounded}
use Rattle.mw_tile_planes.proofs.plane.TiledPlane.shared.Goals as goal

pub returns-clause-bounded : goal.returns-clause-bounded
returns-clause-bounded c = window_bounded c.args.self.now c.args.rect c.in_ok-in_pieces.field-0 c.sound.ensures c.requires.within (λ f plane. c.in_ok-in_pieces.ensures f plane)
