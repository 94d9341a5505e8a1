use Rattle.std.proofs.Common.{ℕ, ◌-◌, ◌<◌, ◌≤◌, ap, arith, refl, set, length}
use Rattle.std.proofs.lemmas.List.{get_or_read}
use Rattle.mw_rank.proofs.Counts.{tallies_removed, Tallies-counted, counted_below, Tallies-known, one-lt, one-le}
use Rattle.mw_rank.proofs.histogram.Histogram.remove.Goals as goal

pub overflow_sub-index_mut : goal.overflow_sub-index_mut
overflow_sub-index_mut c =
    let r = c.requires.1 in
    let within : c.args.s < length c.args.self.now.counts.items = omega (arith, r.tallies.size, Tallies-known c.requires.0 c.args.s c.args.self.now r.others r.tallies) in
    let counter = get_or_read c.args.self.now.counts.items c.args.s c.index_mut.result.now within c.index_mut.ensures.value 0 in
    omega (arith, counter, Tallies-counted c.requires.0 c.args.s c.args.self.now r.others r.tallies)

pub returns-then-from-self : goal.returns-then-from-self
returns-then-from-self c = λ top ns t.
    let within : c.args.s < length c.args.self.now.counts.items = omega (arith, t.size, Tallies-known top c.args.s c.args.self.now ns t) in
    let counter = get_or_read c.args.self.now.counts.items c.args.s c.index_mut.result.now within c.index_mut.ensures.value 0 in
    let lt : c.args.s < c.args.self.now.level = omega (arith, c.from.ensures, c.if-from-self.true) in
    tallies_removed top c.args.s c.args.self.now _ ns (ap (λ (n : ℕ). set c.args.self.now.counts.items c.args.s (n - 1)) counter) refl (omega (arith, t.held))
    (omega (arith, one-lt c.args.s c.args.self.now.level lt, counted_below top c.args.s c.args.self.now ns t lt)) t

pub returns-else-from-self : goal.returns-else-from-self
returns-else-from-self c = λ top ns t.
    let within : c.args.s < length c.args.self.now.counts.items = omega (arith, t.size, Tallies-known top c.args.s c.args.self.now ns t) in
    let counter = get_or_read c.args.self.now.counts.items c.args.s c.index_mut.result.now within c.index_mut.ensures.value 0 in
    let high : c.args.self.now.level ≤ c.args.s = omega (arith, c.from.ensures, c.if-from-self.false) in
    tallies_removed top c.args.s c.args.self.now _ ns (ap (λ (n : ℕ). set c.args.self.now.counts.items c.args.s (n - 1)) counter) refl (omega (arith, t.held))
    (omega (arith, one-le c.args.s c.args.self.now.level high)) t
