use Rattle.std.proofs.Common.{◌-◌, arith}
use Rattle.std.proofs.lemmas.Bool.{or_parts}
use Rattle.mw_geodesic_levels.specs.Levels.{level_numbered}
use Rattle.mw_geodesic_levels.proofs.Raises.{right_more}
use Rattle.mw_geodesic_levels.proofs.last_look.may_rise_from_right.Goals as goal

pub loop-u-init : goal.loop-u-init
loop-u-init g c = λ none k lt. absurd (omega arith)

pub loop-u-preserved : goal.loop-u-preserved
loop-u-preserved g c = λ none.
    let both = or_parts c.loop-u.any c.may_rise-any.result none in
    right_more c.args.frame (level_numbered g.P.Pixel.level c.args.mask.now) (level_numbered g.P.Pixel.level c.args.samples.now) c.args.y c.args.v c.loop-u.u (c.loop-u.u - 1) (omega arith) (c.loop-u.invariant both.0) (c.may_rise-any.ensures both.1)

pub returns : goal.returns
returns g c = λ none k lt. c.loop-u.invariant none k (omega arith)
