use Rattle.std.proofs.Common.{ℕ, [], ◌∷◌, ◌+◌, ◌-◌, ◌<◌, ap, arith, refl, set, length, length-set}
use Rattle.std.proofs.lemmas.List.{get_or_read}
use Rattle.mw_rank.proofs.Counts.{tallies_exchanged, counter_between, some_below, count-cons, count_within, Tallies-known, Tallies-counted, below_within}
use Rattle.mw_rank.proofs.histogram.Histogram.exchange.Goals as goal

pub overflow_sub-index_mut : goal.overflow_sub-index_mut
overflow_sub-index_mut c =
    let r = c.requires.1 in
    let items = c.args.self.now.counts.items in
    let within : c.args.left < length items = omega (arith, r.tallies.size, Tallies-known c.requires.0 c.args.left c.args.self.now r.others r.tallies) in
    omega (arith, get_or_read items c.args.left c.index_mut.result.now within c.index_mut.ensures.value 0, Tallies-counted c.requires.0 c.args.left c.args.self.now r.others r.tallies)

pub overflow_add-index_mut : goal.overflow_add-index_mut
overflow_add-index_mut c =
    let r = c.requires.1 in
    let items = c.args.self.now.counts.items in
    let mid = set items c.args.left (c.index_mut.result.now - 1) in
    let within : c.args.left < length items = omega (arith, r.tallies.size, Tallies-known c.requires.0 c.args.left c.args.self.now r.others r.tallies) in
    let first = get_or_read items c.args.left c.index_mut.result.now within c.index_mut.ensures.value 0 in
    let inside : c.args.entered < length mid = omega (arith, length-set items c.args.left (c.index_mut.result.now - 1), r.tallies.size, c.requires.2) in
    omega (
      arith,
      get_or_read mid c.args.entered c.index_mut-2.result.now inside c.index_mut-2.ensures.value 0,
      counter_between c.requires.0 c.args.left c.args.entered c.args.self.now mid r.others (ap (λ (n : ℕ). set items c.args.left (n - 1)) first) r.tallies,
      r.few,
    )

pub overflow_sub-self : goal.overflow_sub-self
overflow_sub-self c = omega (arith, c.one_below-less.ensures, some_below c.requires.0 c.args.left c.args.self.now c.requires.1.others c.requires.1.tallies)

pub overflow_add-self : goal.overflow_add-self
overflow_add-self c =
    let level = c.args.self.now.level in
    omega (arith, c.one_below-more.ensures, count-cons level c.args.entered [], count_within level (c.args.entered ∷ []), below_within c.requires.0 c.args.self.now _ c.requires.1.tallies, c.requires.1.few)

pub returns : goal.returns
returns c = λ top ns le t.
    let h = c.args.self.now in
    let items = h.counts.items in
    let mid = set items c.args.left (c.index_mut.result.now - 1) in
    let within : c.args.left < length items = omega (arith, t.size, Tallies-known top c.args.left h ns t) in
    let first = get_or_read items c.args.left c.index_mut.result.now within c.index_mut.ensures.value 0 in
    let inside : c.args.entered < length mid = omega (arith, length-set items c.args.left (c.index_mut.result.now - 1), t.size) in
    let second = get_or_read mid c.args.entered c.index_mut-2.result.now inside c.index_mut-2.ensures.value 0 in
    tallies_exchanged top c.args.left c.args.entered h _ mid ns le (ap (λ (n : ℕ). set items c.args.left (n - 1)) first) (ap (λ (n : ℕ). set mid c.args.entered (n + 1)) second) refl refl
    (omega (arith, c.one_below-less.ensures, c.one_below-more.ensures, some_below top c.args.left h ns t)) t
