use Rattle.std.proofs.Common.{arith}
use Rattle.std.proofs.lemmas.Bool.{iff_false}
use Rattle.mw_geodesic_levels.specs.Levels.{level_numbered}
use Rattle.mw_geodesic_levels.proofs.Raises.{still_to}
use Rattle.mw_geodesic_levels.proofs.last_look.may_rise.Goals as goal

pub returns : goal.returns
returns g c = λ none.
    let level = g.P.Pixel.level in
    let not = iff_false c.is_below.ensures none in
    still_to c.args.frame (level_numbered level c.args.mask.now) (level_numbered level c.args.samples.now) c.args.p.x c.args.p.y c.args.q.x c.args.q.y c.number-i.result c.number.result c.number-i.ensures.value c.number.ensures.value (omega (arith, not, c.lesser.ensures, c.at-s.ensures, c.at.ensures, c.at-2.ensures))
