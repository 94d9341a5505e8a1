use Rattle.mw_geodesic_distances.specs.Grids.{grid}
use Rattle.mw_geodesic_distances.proofs.Gaps.{gaps_are, lowered_low}
use Rattle.mw_geodesic_distances.proofs.columns.measure_columns.Goals as goal

pub lower_up-requires-clause-low : goal.lower_up-requires-clause-low
lower_up-requires-clause-low c = lowered_low c.args.frame (grid c.args.frame.width c.args.numbers.now) (grid c.args.frame.width c.lower_down.new.numbers) c.requires.low c.lower_down.ensures

pub returns : goal.returns
returns c = λ set starts bits.
    let frame = c.args.frame in
    gaps_are frame.width frame.height set (grid frame.width c.args.numbers.now) (grid frame.width c.lower_down.new.numbers) (grid frame.width c.lower_up.new.numbers) bits starts c.lower_down.ensures c.lower_up.ensures
