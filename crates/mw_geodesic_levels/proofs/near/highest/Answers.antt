use Rattle.std.proofs.Common.{arith}
use Rattle.mw_geodesic_levels.specs.Levels.{level_numbered}
use Rattle.mw_geodesic_levels.proofs.Raises.{highest_is}
use Rattle.mw_geodesic_levels.proofs.near.highest.Goals as goal

pub returns : goal.returns
returns g c =
    highest_is c.args.frame (level_numbered g.P.Pixel.level c.args.samples.now) c.args.x c.args.v c.args.reach c.saturating_sub.result c.min.result c.number.result c.number-2.result c.number-3.result (g.P.Pixel.level c.greater-2.result) c.requires.column c.requires.small c.saturating_sub.ensures c.min.ensures
    c.number.ensures.value c.number-2.ensures.value c.number-3.ensures.value (omega (arith, c.greater.ensures, c.greater-2.ensures, c.at-left.ensures, c.at-middle.ensures, c.at-right.ensures))
