use Rattle.std.proofs.Common.{◌∙◌, sym}
use Rattle.mw_geodesic_levels.specs.Levels.{level_numbered}
use Rattle.mw_geodesic_levels.proofs.rebuilding.rebuild.Goals as goal

pub rebuild_rows-requires-clause-size : goal.rebuild_rows-requires-clause-size
rebuild_rows-requires-clause-size g c = c.requires.size ∙ sym c.turned.ensures.size

pub rebuild_rows-requires-clause-mask : goal.rebuild_rows-requires-clause-mask
rebuild_rows-requires-clause-mask g c = c.requires.mask ∙ sym c.turned.ensures.size

pub returns : goal.returns
returns g c =
    let level = g.P.Pixel.level in
    c.turned.ensures.same (level_numbered level c.args.mask.now) (level_numbered level c.args.samples.now) (level_numbered level c.rebuild_rows.new.samples) c.in_ok-rebuild_rows.ensures
