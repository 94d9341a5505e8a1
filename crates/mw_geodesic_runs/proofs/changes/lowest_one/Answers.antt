use Rattle.mw_geodesic_runs.proofs.ChangedPlaces.{trailing_lowest}
use Rattle.mw_geodesic_runs.proofs.changes.lowest_one.Goals as goal

pub returns-clause-within : goal.returns-clause-within
returns-clause-within c = (trailing_lowest c.args.bits c.requires c.ranges.bits.fits).within

pub returns-clause-lowest : goal.returns-clause-lowest
returns-clause-lowest c = (trailing_lowest c.args.bits c.requires c.ranges.bits.fits).lowest
