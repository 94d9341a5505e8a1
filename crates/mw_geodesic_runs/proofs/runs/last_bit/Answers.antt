use Rattle.mw_geodesic_runs.proofs.Tallies.{last_is}
use Rattle.mw_geodesic_runs.proofs.runs.last_bit.Goals as goal

pub returns : goal.returns
returns c = last_is c.args.word c.ranges.word.fits
