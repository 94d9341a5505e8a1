use Rattle.std.proofs.Common.{subst}
use Rattle.mw_model.specs.Pictures.{IsPicture, Picture}
use Rattle.mw_tile_planes.specs.Filled.{filled}
use Rattle.mw_tile_planes.specs.Views.{ShowsInTiles}
use Rattle.mw_tile_planes.proofs.Filled.{filled_is_picture, filled_is_plane}
use Rattle.mw_tile_planes.proofs.shown.WholePlane.view.Goals as goal

pub returns-clause-shows : goal.returns-clause-shows
returns-clause-shows c =
    let plane = c.self.inside.plane in
    subst (λ (f : Picture). ShowsInTiles f c.view.result) c.self.view_is (c.view.ensures (filled plane) (filled_is_plane plane c.self.invariant.1))

pub returns-clause-picture : goal.returns-clause-picture
returns-clause-picture c = subst IsPicture c.self.view_is (filled_is_picture c.self.inside.plane c.self.invariant.1)
