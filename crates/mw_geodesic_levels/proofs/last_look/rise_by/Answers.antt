use Rattle.std.proofs.Common.{arith}
use Rattle.std.proofs.lemmas.Bool.{iff_false}
use Rattle.mw_geodesic_levels.specs.Levels.{level_numbered}
use Rattle.mw_geodesic_levels.proofs.Raises.{can_rise, still_by}
use Rattle.mw_geodesic_levels.proofs.last_look.rise_by.Goals as goal

pub returns-then-is_below-clause-some : goal.returns-then-is_below-clause-some
returns-then-is_below-clause-some g c =
    let level = g.P.Pixel.level in
    can_rise c.args.frame (level_numbered level c.args.mask.now) (level_numbered level c.args.samples.now) c.args.x c.args.y c.args.v c.reach.result (level c.highest-most.result) c.number-number.result (level c.lesser-sample.result)
    c.requires.column c.requires.row c.requires.other (c.reach.ensures.back c.requires.down c.requires.up c.args.x) c.highest-most.ensures c.number-number.ensures.value (omega (arith, c.lesser-sample.ensures, c.at.ensures)) (omega (arith, c.is_below.ensures.0 c.if-is_below.true, c.at-2.ensures))

pub returns-clause-none : goal.returns-clause-none
returns-clause-none g c = λ none.
    let level = g.P.Pixel.level in
    let not = iff_false c.is_below.ensures c.if-is_below.false in
    still_by c.args.frame (level_numbered level c.args.mask.now) (level_numbered level c.args.samples.now) c.args.x c.args.y c.args.v c.reach.result (level c.highest-most.result) c.number-number.result (level c.lesser-sample.result)
    c.reach.ensures.near c.highest-most.ensures c.number-number.ensures.value (omega (arith, c.lesser-sample.ensures, c.at.ensures)) (omega (arith, not, c.at-2.ensures))
