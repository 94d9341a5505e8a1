use Rattle.std.proofs.Common.{◌-◌, ◌<◌, arith, refl, length}
use Rattle.std.proofs.lemmas.List.{get_or_read}
use Rattle.mw_rank.proofs.Counts.{count_before, count_rises, next_below, tallies_moved}
use Rattle.mw_rank.proofs.histogram.Histogram.lower.Goals as goal

pub loop-below-init : goal.loop-below-init
loop-below-init c = record {
  place = λ top ns t. (t.below, t.level);
  enough = λ top ns t many. omega (arith, t.below, count_rises c.args.self.now.level ns);
}

pub index-requires : goal.index-requires
index-requires c =
    let r = c.requires.held.1 in
    let i = c.loop-below.invariant.place c.requires.held.0 r.others r.tallies in
    omega (arith, r.tallies.size, i.1)

pub overflow_sub-below : goal.overflow_sub-below
overflow_sub-below c =
    let r = c.requires.held.1 in
    let h = c.args.self.now in
    let level = c.loop-below.level in
    let i = c.loop-below.invariant.place c.requires.held.0 r.others r.tallies in
    let within : level - 1 < length h.counts.items = omega (arith, r.tallies.size, i.1) in
    omega (
      arith,
      i.0,
      c.from-below.ensures,
      get_or_read h.counts.items (level - 1) c.index.result.now within c.index.ensures 0,
      next_below c.requires.held.0 level h r.others r.tallies (omega arith),
    )

pub loop-below-preserved : goal.loop-below-preserved
loop-below-preserved c = record {
  place = λ top ns t.
      let h = c.args.self.now in
      let level = c.loop-below.level in
      let i = c.loop-below.invariant.place top ns t in
      let within : level - 1 < length h.counts.items = omega (arith, t.size, i.1) in
      let below = next_below top level h ns t (omega arith) in
      (omega (arith, i.0, c.from-below.ensures, get_or_read h.counts.items (level - 1) c.index.result.now within c.index.ensures 0, below), omega (arith, i.1));
  enough = λ top ns t many. let i = c.loop-below.invariant.place top ns t in omega (arith, i.0, count_before c.loop-below.level ns (omega arith));
}

pub returns-clause-tallies : goal.returns-clause-tallies
returns-clause-tallies c = λ top ns t.
    let i = c.loop-below.invariant.place top ns t in
    tallies_moved top c.args.self.now _ ns refl refl i.1 i.0 t
