use Rattle.std.proofs.Common.{◌-◌, arith}
use Rattle.std.proofs.lemmas.Bool.{or_parts}
use Rattle.mw_geodesic_levels.specs.Levels.{level_numbered}
use Rattle.mw_geodesic_levels.proofs.Raises.{left_more}
use Rattle.mw_geodesic_levels.proofs.last_look.may_rise_from_left.Goals as goal

pub loop-x-init : goal.loop-x-init
loop-x-init g c = λ none k lt. absurd (omega arith)

pub loop-x-preserved : goal.loop-x-preserved
loop-x-preserved g c = λ none.
    let both = or_parts c.loop-x.any c.may_rise-any.result none in
    left_more c.args.frame (level_numbered g.P.Pixel.level c.args.mask.now) (level_numbered g.P.Pixel.level c.args.samples.now) c.args.y c.args.v c.loop-x.x (c.loop-x.x - 1) (omega arith) (c.loop-x.invariant both.0) (c.may_rise-any.ensures both.1)

pub returns : goal.returns
returns g c = λ none k lt. c.loop-x.invariant none k (omega arith)
