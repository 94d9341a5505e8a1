use Rattle.std.proofs.Common.{ap}
use Rattle.mw_step_task.specs.mw_tile.Windows.{SourceWindow}
use Rattle.mw_tile_planes.specs.Filled.{filled}
use Rattle.mw_tile_planes.proofs.Filled.{filled_is_plane, window_bounded}
use Rattle.mw_tile_planes.proofs.plane.TiledPlane.matches.Goals as goal

pub returns-clause-level : goal.returns-clause-level
returns-clause-level c = λ holds.
    let p = c.args.self.now in
    let is = (c.has_window.ensures (filled p) (filled_is_plane p c.sound.ensures)).0 holds in
    (ap (λ (w : SourceWindow). w.kind) is, ap (λ (w : SourceWindow). w.maxval) is)

pub returns-clause-bounded : goal.returns-clause-bounded
returns-clause-bounded c = λ holds. window_bounded c.args.self.now c.args.rect c.args.window.now c.sound.ensures c.requires.within (λ f plane. (c.has_window.ensures f plane).0 holds)
