use Rattle.std.proofs.Common.{inl, inr}
use Rattle.mw_geodesic_levels.specs.Levels.{level_numbered}
use Rattle.mw_geodesic_levels.proofs.Raises.{still_along}
use Rattle.mw_geodesic_levels.proofs.last_look.may_rise_along.Goals as goal

pub returns-then-reach-eq0 : goal.returns-then-reach-eq0
returns-then-reach-eq0 g c = λ none.
    let level = g.P.Pixel.level in
    still_along c.args.frame (level_numbered level c.args.mask.now) (level_numbered level c.args.samples.now) c.args.y c.args.v c.reach.result c.reach.ensures.near c.reach.ensures.small (c.may_rise_straight.ensures c.if-may_rise_straight.false) (inl c.if-reach-eq0.true)

pub returns : goal.returns
returns g c = λ none.
    let level = g.P.Pixel.level in
    still_along c.args.frame (level_numbered level c.args.mask.now) (level_numbered level c.args.samples.now) c.args.y c.args.v c.reach.result c.reach.ensures.near c.reach.ensures.small (c.may_rise_straight.ensures c.if-may_rise_straight.false)
    (inr (c.may_rise_from_left.ensures c.if-may_rise_from_left.false, c.may_rise_from_right.ensures none))
