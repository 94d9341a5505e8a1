use Rattle.std.proofs.Common.{arith}
use Rattle.mw_rank.proofs.Counts.{level-selected}
use Rattle.mw_rank.proofs.histogram.Histogram.select.Goals as goal

pub overflow_cast-result : goal.overflow_cast-result
overflow_cast-result c =
    let t = c.go_to.ensures.tallies c.requires.0 c.requires.1.others c.requires.1.tallies in
    omega (arith, t.level, t.short)

pub returns-clause-level : goal.returns-clause-level
returns-clause-level c = λ top ns t.
    let u = c.go_to.ensures.tallies top ns t in
    level-selected top c.args.k _ c.go_to.new.self ns (omega (arith, u.held, t.held)) c.go_to.ensures.few (c.go_to.ensures.enough top ns t) u

pub returns-clause-small : goal.returns-clause-small
returns-clause-small c = λ top ns t. omega (arith, (c.go_to.ensures.tallies top ns t).level)
