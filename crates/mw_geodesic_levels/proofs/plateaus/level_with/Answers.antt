use Rattle.std.proofs.Common.{arith}
use Rattle.mw_geodesic_levels.specs.Levels.{level_numbered}
use Rattle.mw_geodesic_levels.proofs.Rooms.{risen}
use Rattle.mw_geodesic_levels.proofs.Raises.{raised_itself, near_rises}
use Rattle.mw_geodesic_levels.proofs.plateaus.level_with.Goals as goal

pub returns-then-is_below : goal.returns-then-is_below
returns-then-is_below g c = raised_itself c.args.frame (level_numbered g.P.Pixel.level c.args.mask.now) (level_numbered g.P.Pixel.level c.args.samples.now)

pub returns : goal.returns
returns g c = raised_itself c.args.frame (level_numbered g.P.Pixel.level c.args.mask.now) (level_numbered g.P.Pixel.level c.args.samples.now)

pub returns-then-is_below-2 : goal.returns-then-is_below-2
returns-then-is_below-2 g c =
    let level = g.P.Pixel.level in
    risen
    (near_rises c.args.frame (level_numbered level c.args.mask.now) (level_numbered level c.args.samples.now) c.args.p.x c.args.p.y c.args.q.x c.args.q.y c.number-i.result c.number.result (level c.lesser-s.result) c.requires.other_column c.requires.other_row c.requires.column c.requires.row c.requires.near c.number-i.ensures.value c.number.ensures.value
    (omega (arith, c.lesser-s.ensures, c.at-offered.ensures, c.at.ensures)) (omega (arith, c.is_below-2.ensures.0 c.if-is_below-2.true, c.at-2.ensures)))
    c.put.ensures
