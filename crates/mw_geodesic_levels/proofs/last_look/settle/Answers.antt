use Rattle.std.proofs.Common.{arith, refl}
use Rattle.mw_geodesic_levels.specs.Levels.{level_numbered}
use Rattle.mw_geodesic_levels.proofs.Raises.{raised_itself, raised_on}
use Rattle.mw_geodesic_levels.proofs.Rooms.{risen, settled_more}
use Rattle.mw_geodesic_levels.proofs.last_look.settle.Goals as goal

pub loop-rise-init : goal.loop-rise-init
loop-rise-init g c = raised_itself c.args.frame (level_numbered g.P.Pixel.level c.args.mask.now) (level_numbered g.P.Pixel.level c.args.samples.now)

pub loop-rise-preserved : goal.loop-rise-preserved
loop-rise-preserved g c = raised_on c.loop-rise.invariant (raised_on (risen c.in-Some.ensures.some c.put.ensures) c.raise_all.ensures)

pub loop-rise-smaller : goal.loop-rise-smaller
loop-rise-smaller g c = settled_more c.in-Some.ensures.some c.put.ensures c.raise_all.ensures

pub put-requires : goal.put-requires
put-requires g c = omega (arith, c.in-Some.ensures.some.inside)

pub returns-clause-still : goal.returns-clause-still
returns-clause-still g c = c.in_default.ensures.none refl
