use Rattle.std.proofs.Common.{subst}
use Rattle.mw_model.specs.Pictures.{IsPicture}
use Rattle.mw_tile_planes.proofs.Filled.{filled_is_picture}
use Rattle.mw_tile_planes.proofs.shown.WholePlane.height.Goals as goal

pub returns-clause-picture : goal.returns-clause-picture
returns-clause-picture c = subst IsPicture c.self.view_is (filled_is_picture c.self.inside.plane c.self.invariant.1)
