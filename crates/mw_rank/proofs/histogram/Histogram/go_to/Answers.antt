use Rattle.std.proofs.Common.{◌<◌, arith, length}
use Rattle.std.proofs.lemmas.List.{get_or_read}
use Rattle.mw_rank.proofs.histogram.Histogram.go_to.Goals as goal

pub go_down-requires-clause-held : goal.go_down-requires-clause-held
go_down-requires-clause-held c =
    let r = c.requires.held.1 in
    (c.requires.held.0, record { others = r.others; tallies = c.step_down.ensures.tallies c.requires.held.0 r.others r.tallies; few = r.few })

pub go_up-requires-clause-held : goal.go_up-requires-clause-held
go_up-requires-clause-held c =
    let r = c.requires.held.1 in
    (c.requires.held.0, record { others = r.others; tallies = c.step_up.ensures.tallies c.requires.held.0 r.others r.tallies; few = r.few })

pub index-requires : goal.index-requires
index-requires c =
    let r = c.requires.held.1 in
    let t = c.step_up.ensures.tallies c.requires.held.0 r.others r.tallies in
    omega (arith, t.level, t.size)

pub overflow_cast-self : goal.overflow_cast-self
overflow_cast-self c =
    let r = c.requires.held.1 in
    let t = c.step_up.ensures.tallies c.requires.held.0 r.others r.tallies in
    omega (arith, t.level, t.short)

pub returns-then-self-n-2-clause-tallies : goal.returns-then-self-n-2-clause-tallies
returns-then-self-n-2-clause-tallies c = λ top ns t. c.go_down.ensures.tallies top ns (c.step_down.ensures.tallies top ns t)

pub returns-then-self-n-2-clause-enough : goal.returns-then-self-n-2-clause-enough
returns-then-self-n-2-clause-enough c = λ top ns t. c.go_down.ensures.enough top ns (c.step_down.ensures.tallies top ns t)

pub returns-else-self-n-2-clause-enough : goal.returns-else-self-n-2-clause-enough
returns-else-self-n-2-clause-enough c = λ top ns t. c.step_down.ensures.enough top ns t (omega (arith, c.if-self-n.true))

pub returns-then-self-from-clause-tallies : goal.returns-then-self-from-clause-tallies
returns-then-self-from-clause-tallies c = λ top ns t. c.go_up.ensures.tallies top ns (c.step_up.ensures.tallies top ns t)

pub returns-then-self-from-clause-enough : goal.returns-then-self-from-clause-enough
returns-then-self-from-clause-enough c = λ top ns t. c.go_up.ensures.enough top ns (c.step_up.ensures.tallies top ns t)

pub returns-else-self-from-clause-enough : goal.returns-else-self-from-clause-enough
returns-else-self-from-clause-enough c = λ top ns t.
    let h = c.step_up.new.self in
    let moved = c.step_up.ensures.tallies top ns t in
    let within : h.level < length h.counts.items = omega (arith, moved.size, moved.level) in
    let counter = get_or_read h.counts.items h.level c.index.result.now within c.index.ensures 0 in
    omega (arith, counter, c.from.ensures, c.if-self-from.false, moved.each h.level, moved.below)
