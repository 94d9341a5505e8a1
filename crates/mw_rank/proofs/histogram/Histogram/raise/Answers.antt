use Rattle.std.proofs.Common.{◌<◌, arith, refl, length}
use Rattle.std.proofs.lemmas.List.{get_or_read}
use Rattle.mw_rank.proofs.Counts.{not_top, tallies_moved}
use Rattle.mw_rank.proofs.histogram.Histogram.raise.Goals as goal
use Rattle.mw_rank.proofs.histogram.Histogram.raise.Goals.{then-loop-level-test+else-below-from, else-loop-level-test}

pub loop-level-init : goal.loop-level-init
loop-level-init c = record {
  place = λ top ns t. (t.below, t.level);
  few = c.requires.few;
}

pub index-requires : goal.index-requires
index-requires c =
    let r = c.requires.held.1 in
    let i = c.loop-level.invariant.place c.requires.held.0 r.others r.tallies in
    omega (arith, i.1, r.tallies.size)

pub index-requires-in-loop-level : goal.index-requires-in-loop-level
index-requires-in-loop-level c =
    let r = c.requires.held.1 in
    let i = c.loop-level.invariant.place c.requires.held.0 r.others r.tallies in
    omega (arith, i.1, r.tallies.size)

pub overflow_add-level : goal.overflow_add-level
overflow_add-level c =
    let r = c.requires.held.1 in
    let h = c.args.self.now in
    let level = c.loop-level.level in
    let i = c.loop-level.invariant.place c.requires.held.0 r.others r.tallies in
    let within : level < length h.counts.items = omega (arith, r.tallies.size, i.1) in
    let counter = get_or_read h.counts.items level c.index.result.now within c.index.ensures 0 in
    let lower = not_top c.requires.held.0 c.args.n level h r.others r.tallies i.1 c.requires.within (omega (arith, counter, c.from.ensures, c.loop-level-test.true, i.0)) in
    omega (arith, lower, r.tallies.short)

pub loop-level-smaller : goal.loop-level-smaller
loop-level-smaller c =
    let r = c.requires.held.1 in
    let i = c.loop-level.invariant.place c.requires.held.0 r.others r.tallies in
    omega (arith, i.1, r.tallies.size)

pub loop-level-preserved : goal.loop-level-preserved
loop-level-preserved c =
    let r = c.requires.held.1 in
    let h = c.args.self.now in
    let level = c.loop-level.level in
    let now = c.loop-level.invariant.place c.requires.held.0 r.others r.tallies in
    let inside : level < length h.counts.items = omega (arith, r.tallies.size, now.1) in
    let first = get_or_read h.counts.items level c.index.result.now inside c.index.ensures 0 in
    let again = get_or_read h.counts.items level c.index-in-loop-level.result.now inside c.index-in-loop-level.ensures 0 in
    record {
      place = λ top ns t.
          let i = c.loop-level.invariant.place top ns t in
          let lower = not_top top c.args.n level h ns t i.1 c.requires.within (omega (arith, first, c.from.ensures, c.loop-level-test.true, i.0)) in
          (omega (arith, c.from-below.ensures, again, t.each level, i.0), omega (arith, lower));
      few = omega (arith, first, again, c.from.ensures, c.from-below.ensures, c.loop-level-test.true);
    }

pub returns-clause-tallies : goal.returns-clause-tallies
returns-clause-tallies c = λ top ns t.
    let i = c.loop-level.invariant.place top ns t in
    tallies_moved top c.args.self.now _ ns refl refl i.1 i.0 t

pub returns-clause-enough : goal.returns-clause-enough
returns-clause-enough c = λ top ns t under. elim c.loop-level-test.branch [
  | then-loop-level-test+else-below-from w ↦
      let h = c.args.self.now in
      let level = c.loop-level.level in
      let i = c.loop-level.invariant.place top ns t in
      let within : level < length h.counts.items = omega (arith, t.size, i.1) in
      let counter = get_or_read h.counts.items level w.index.result.now within w.index.ensures 0 in
      omega (arith, counter, w.from.ensures, w.if-below-from.false, t.each level, i.0)
  | else-loop-level-test w ↦ absurd (omega (arith, under, w.loop-level-test.false))
]
