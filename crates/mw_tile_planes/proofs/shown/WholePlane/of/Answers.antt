use Rattle.mw_tile_planes.proofs.Filled.{filled_is_picture, filled_is_plane}
use Rattle.mw_tile_planes.proofs.shown.WholePlane.of.Goals as goal

pub returns-clause-shows : goal.returns-clause-shows
returns-clause-shows c = filled_is_plane c.args.plane c.sound.ensures

pub returns-clause-picture : goal.returns-clause-picture
returns-clause-picture c = filled_is_picture c.args.plane c.sound.ensures
