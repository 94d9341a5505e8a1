use Rattle.mw_geodesic_levels.specs.Levels.{level_numbered}
use Rattle.mw_geodesic_levels.proofs.Raises.{pulled}
use Rattle.mw_geodesic_levels.proofs.sweeps.pull.Goals as goal

pub returns : goal.returns
returns g c =
    let level = g.P.Pixel.level in
    pulled c.args.frame (level_numbered level c.args.mask.now) (level_numbered level c.args.samples.now) (level_numbered level c.raise.new.samples) c.args.p.x c.args.p.y c.args.q.x c.args.q.y c.number-2.result c.number.result (level c.at-s.result) (level c.raise.result)
    c.requires.column c.requires.row c.requires.other_column c.requires.other_row c.requires.near c.number-2.ensures.value c.number.ensures.value c.at-s.ensures c.raise.ensures.level c.raise.ensures.put
