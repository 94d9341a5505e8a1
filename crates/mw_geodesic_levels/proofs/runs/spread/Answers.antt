use Rattle.std.proofs.Common.{sym}
use Rattle.mw_geodesic_levels.proofs.runs.spread.Goals as goal

pub double-requires-2-clause-run_begun : goal.double-requires-2-clause-run_begun
double-requires-2-clause-run_begun g c = λ j lt. sym (c.double.ensures.run_begun j lt)

pub double-requires-2-clause-ways_begun : goal.double-requires-2-clause-ways_begun
double-requires-2-clause-ways_begun g c = λ j lt. sym (c.double.ensures.ways_begun j lt)

pub double-requires-3-clause-run_begun : goal.double-requires-3-clause-run_begun
double-requires-3-clause-run_begun g c = λ j lt. sym (c.double-2.ensures.run_begun j lt)

pub double-requires-3-clause-ways_begun : goal.double-requires-3-clause-ways_begun
double-requires-3-clause-ways_begun g c = λ j lt. sym (c.double-2.ensures.ways_begun j lt)

pub double-requires-4-clause-run_begun : goal.double-requires-4-clause-run_begun
double-requires-4-clause-run_begun g c = λ j lt. sym (c.double-3.ensures.run_begun j lt)

pub double-requires-4-clause-ways_begun : goal.double-requires-4-clause-ways_begun
double-requires-4-clause-ways_begun g c = λ j lt. sym (c.double-3.ensures.ways_begun j lt)

pub double-requires-5-clause-run_begun : goal.double-requires-5-clause-run_begun
double-requires-5-clause-run_begun g c = λ j lt. sym (c.double-4.ensures.run_begun j lt)

pub double-requires-5-clause-ways_begun : goal.double-requires-5-clause-ways_begun
double-requires-5-clause-ways_begun g c = λ j lt. sym (c.double-4.ensures.ways_begun j lt)

pub double-requires-6-clause-run_begun : goal.double-requires-6-clause-run_begun
double-requires-6-clause-run_begun g c = λ j lt. sym (c.double-5.ensures.run_begun j lt)

pub double-requires-6-clause-ways_begun : goal.double-requires-6-clause-ways_begun
double-requires-6-clause-ways_begun g c = λ j lt. sym (c.double-5.ensures.ways_begun j lt)

pub double-requires-7-clause-run_begun : goal.double-requires-7-clause-run_begun
double-requires-7-clause-run_begun g c = λ j lt. sym (c.double-6.ensures.run_begun j lt)

pub double-requires-7-clause-ways_begun : goal.double-requires-7-clause-ways_begun
double-requires-7-clause-ways_begun g c = λ j lt. sym (c.double-6.ensures.ways_begun j lt)

pub returns : goal.returns
returns g c = λ h known. (c.double-7.ensures.under h (c.double-6.ensures.under h (c.double-5.ensures.under h (c.double-4.ensures.under h (c.double-3.ensures.under h (c.double-2.ensures.under h (c.double.ensures.under h known))))))).under
