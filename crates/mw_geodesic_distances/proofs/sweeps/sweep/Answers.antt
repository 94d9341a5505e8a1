use Rattle.mw_geodesic_distances.specs.Grids.{grid}
use Rattle.mw_geodesic_distances.proofs.Swept.{low_on, lowered_on}
use Rattle.mw_geodesic_distances.proofs.sweeps.sweep.Goals as goal

pub sweep_up-requires-clause-low : goal.sweep_up-requires-clause-low
sweep_up-requires-clause-low c = low_on c.args.frame c.args.top (grid c.args.frame.width c.args.numbers.now) (grid c.args.frame.width c.sweep_down.new.numbers) c.requires.low c.sweep_down.ensures.lowered

pub returns-clause-lowered : goal.returns-clause-lowered
returns-clause-lowered c =
    lowered_on c.args.frame (grid c.args.frame.width c.args.numbers.now) (grid c.args.frame.width c.sweep_down.new.numbers) (grid c.args.frame.width c.sweep_up.new.numbers) c.sweep_down.ensures.lowered c.sweep_up.ensures.lowered
