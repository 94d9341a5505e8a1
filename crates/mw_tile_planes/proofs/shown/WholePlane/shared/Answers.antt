use Rattle.std.proofs.Common.{◌∙◌, ap}
use Rattle.mw_step_task.specs.mw_tile.Windows.{window_of}
use Rattle.mw_tile_planes.specs.Filled.{filled}
use Rattle.mw_tile_planes.proofs.Filled.{filled_is_plane}
use Rattle.mw_tile_planes.proofs.shown.WholePlane.shared.Goals as goal

pub returns : goal.returns
returns c =
    let plane = c.self.inside.plane in
    c.in_ok-window.ensures.same (filled plane) (filled_is_plane plane c.self.invariant.1) ∙ ap (window_of c.args.rect) c.self.view_is
