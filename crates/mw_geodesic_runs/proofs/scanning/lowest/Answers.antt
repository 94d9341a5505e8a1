use Rattle.std.proofs.Common.{arith}
use Rattle.mw_geodesic_runs.proofs.LowBits.{none_from, lowest_is}
use Rattle.mw_geodesic_runs.proofs.scanning.lowest.Goals as goal

pub returns-then-left-eq0-clause-none : goal.returns-then-left-eq0-clause-none
returns-then-left-eq0-clause-none c = λ i le lt. none_from c.args.word c.args.low i c.if-left-eq0.true le

pub returns-clause-within : goal.returns-clause-within
returns-clause-within c = let is = lowest_is c.args.word c.args.low c.ranges.word.fits c.if-left-eq0.false in let within = is.within in omega arith

pub returns-clause-none : goal.returns-clause-none
returns-clause-none c = let is = lowest_is c.args.word c.args.low c.ranges.word.fits c.if-left-eq0.false in λ i le lt. is.none i le lt

pub returns-clause-found : goal.returns-clause-found
returns-clause-found c = let is = lowest_is c.args.word c.args.low c.ranges.word.fits c.if-left-eq0.false in λ lt. is.found
