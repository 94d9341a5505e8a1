use Rattle.mw_tile_planes.specs.Filled.{filled}
use Rattle.mw_tile_planes.proofs.Filled.{filled_is_picture, filled_is_plane}
use Rattle.mw_tile_planes.proofs.laws.plane_is_of_an_image.Goals as goal

pub returns : goal.returns
returns c = (filled c.args.plane.now, filled_is_plane c.args.plane.now c.sound.ensures, filled_is_picture c.args.plane.now c.sound.ensures)
