use Rattle.std.proofs.Common.{ℕ, ◌+◌, ◌<◌, ◌≤◌, ap, arith, refl, set, length}
use Rattle.std.proofs.lemmas.List.{get_or_read}
use Rattle.mw_rank.proofs.Counts.{tallies_added, counter_within, one-lt, one-le}
use Rattle.mw_rank.proofs.histogram.Histogram.add.Goals as goal

pub overflow_add-index_mut : goal.overflow_add-index_mut
overflow_add-index_mut c =
    let r = c.requires.1 in
    let within : c.args.s < length c.args.self.now.counts.items = omega (arith, r.tallies.size, c.requires.2) in
    let counter = get_or_read c.args.self.now.counts.items c.args.s c.index_mut.result.now within c.index_mut.ensures.value 0 in
    omega (arith, counter, counter_within c.requires.0 c.args.self.now r.levels c.args.s r.tallies, r.few)

pub returns-then-from-self : goal.returns-then-from-self
returns-then-from-self c = λ top ns le t.
    let within : c.args.s < length c.args.self.now.counts.items = omega (arith, t.size) in
    let counter = get_or_read c.args.self.now.counts.items c.args.s c.index_mut.result.now within c.index_mut.ensures.value 0 in
    let lt : c.args.s < c.args.self.now.level = omega (arith, c.from.ensures, c.if-from-self.true) in
    tallies_added top c.args.s c.args.self.now _ ns le (ap (λ (n : ℕ). set c.args.self.now.counts.items c.args.s (n + 1)) counter) refl refl (omega (arith, one-lt c.args.s c.args.self.now.level lt)) t

pub returns-else-from-self : goal.returns-else-from-self
returns-else-from-self c = λ top ns le t.
    let within : c.args.s < length c.args.self.now.counts.items = omega (arith, t.size) in
    let counter = get_or_read c.args.self.now.counts.items c.args.s c.index_mut.result.now within c.index_mut.ensures.value 0 in
    let high : c.args.self.now.level ≤ c.args.s = omega (arith, c.from.ensures, c.if-from-self.false) in
    tallies_added top c.args.s c.args.self.now _ ns le (ap (λ (n : ℕ). set c.args.self.now.counts.items c.args.s (n + 1)) counter) refl refl (omega (arith, one-le c.args.s c.args.self.now.level high)) t
