use Rattle.std.proofs.Common.{arith}
use Rattle.mw_rank.proofs.histogram.Histogram.go_up.Goals as goal

pub leap_up-requires-clause-held : goal.leap_up-requires-clause-held
leap_up-requires-clause-held c =
    let r = c.requires.held.1 in
    (c.requires.held.0, record { others = r.others; tallies = c.raise.ensures.tallies c.requires.held.0 r.others r.tallies; few = r.few })

pub raise-requires-then-self-near-clause-held : goal.raise-requires-then-self-near-clause-held
raise-requires-then-self-near-clause-held c =
    let r = c.requires.held.1 in
    (c.requires.held.0, record { others = r.others; tallies = c.leap_up.ensures.tallies c.requires.held.0 r.others (c.raise.ensures.tallies c.requires.held.0 r.others r.tallies); few = r.few })

pub returns-then-self-near-clause-tallies : goal.returns-then-self-near-clause-tallies
returns-then-self-near-clause-tallies c = λ top ns t. c.raise-then-self-near.ensures.tallies top ns (c.leap_up.ensures.tallies top ns (c.raise.ensures.tallies top ns t))

pub returns-then-self-near-clause-enough : goal.returns-then-self-near-clause-enough
returns-then-self-near-clause-enough c = λ top ns t.
    let near = c.leap_up.ensures.tallies top ns (c.raise.ensures.tallies top ns t) in
    let far = c.raise-then-self-near.ensures.tallies top ns near in
    c.raise-then-self-near.ensures.enough top ns near (omega (arith, far.level, far.short))

pub returns-else-self-near-clause-enough : goal.returns-else-self-near-clause-enough
returns-else-self-near-clause-enough c = λ top ns t. c.raise.ensures.enough top ns t (omega (arith, c.if-self-near.false))
