use Rattle.std.proofs.Common.{◌+◌, arith}
use Rattle.mw_geodesic_levels.specs.Levels.{level_numbered}
use Rattle.mw_geodesic_levels.proofs.Rooms.{flooded_itself, flooded_on, offered}
use Rattle.mw_geodesic_levels.proofs.Raises.{near_rises}
use Rattle.mw_geodesic_levels.proofs.flood.offer.Goals as goal

pub returns-else-is_below : goal.returns-else-is_below
returns-else-is_below g c = flooded_itself c.args.frame (level_numbered g.P.Pixel.level c.args.mask.now) (level_numbered g.P.Pixel.level c.args.samples.now) c.args.queue.now

pub returns-else-is_below-2 : goal.returns-else-is_below-2
returns-else-is_below-2 g c = flooded_itself c.args.frame (level_numbered g.P.Pixel.level c.args.mask.now) (level_numbered g.P.Pixel.level c.args.samples.now) c.args.queue.now

pub returns-then-is_below-2 : goal.returns-then-is_below-2
returns-then-is_below-2 g c =
    let level = g.P.Pixel.level in
    flooded_on
    (offered c.args.frame (level_numbered level c.args.mask.now) (level_numbered level c.args.samples.now) (level_numbered level c.put.new.samples) c.number-i.result (level c.lesser-s.result) c.args.queue.now (c.args.queue.now + 1)
    (near_rises c.args.frame (level_numbered level c.args.mask.now) (level_numbered level c.args.samples.now) c.args.p.x c.args.p.y c.args.q.x c.args.q.y c.number-i.result c.number.result (level c.lesser-s.result) c.requires.other_column c.requires.other_row c.requires.column c.requires.row c.requires.near c.number-i.ensures.value c.number.ensures.value
    (omega (arith, c.lesser-s.ensures, c.at-offered.ensures, c.at-then-is_below.ensures)) (omega (arith, c.is_below-then-is_below.ensures.0 c.if-is_below-2.true, c.at-then-is_below-2.ensures)))
    c.put.ensures (omega arith))
    c.wait.ensures
