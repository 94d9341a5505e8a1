use Rattle.std.proofs.Common.{◌≡◌, ◌↔◌, IsTrue, subst}
use Rattle.mw_model.specs.Pictures.{Picture}
use Rattle.mw_step_task.specs.mw_tile.Windows.{window_of}
use Rattle.mw_tile_planes.specs.Filled.{filled}
use Rattle.mw_tile_planes.proofs.Filled.{filled_is_plane}
use Rattle.mw_tile_planes.proofs.shown.WholePlane.matches.Goals as goal

pub returns : goal.returns
returns c =
    let plane = c.self.inside.plane in
    let P : Picture → Type 0 = λ f. IsTrue c.matches.result ↔ (c.args.window.now ≡ window_of c.args.rect f) in
    subst P c.self.view_is (c.matches.ensures.same (filled plane) (filled_is_plane plane c.self.invariant.1))
