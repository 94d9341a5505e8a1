use Rattle.std.proofs.Common.{refl}
use Rattle.mw_geodesic_levels.specs.Levels.{level_numbered}
use Rattle.mw_geodesic_levels.proofs.Raises.{still_in_row}
use Rattle.mw_geodesic_levels.proofs.last_look.rise_in_row.Goals as goal

pub returns-clause-none : goal.returns-clause-none
returns-clause-none g c = λ none.
    let level = g.P.Pixel.level in
    still_in_row c.args.frame (level_numbered level c.args.mask.now) (level_numbered level c.args.samples.now) c.args.y c.above.result c.below.result c.above.ensures.each c.below.ensures.each
    (c.in_default.ensures.none refl) (c.in_default-rise_along.ensures.none refl) (c.rise_along-3.ensures.none none)
