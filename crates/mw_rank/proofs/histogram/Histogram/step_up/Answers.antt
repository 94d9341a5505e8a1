use Rattle.std.proofs.Common.{◌<◌, arith, refl, length}
use Rattle.std.proofs.lemmas.List.{get_or_read}
use Rattle.mw_rank.proofs.Counts.{not_top, tallies_moved}
use Rattle.mw_rank.proofs.histogram.Histogram.step_up.Goals as goal

pub levels-init : goal.levels-init
levels-init c = record {
  place = λ top ns t. (t.below, t.level);
  few = c.requires.few;
}

pub index-requires : goal.index-requires
index-requires c =
    let r = c.requires.held.1 in
    let i = c.levels.invariant.place c.requires.held.0 r.others r.tallies in
    omega (arith, i.1, r.tallies.size)

pub overflow_add-level : goal.overflow_add-level
overflow_add-level c =
    let r = c.requires.held.1 in
    let h = c.args.self.now in
    let level = c.levels.level in
    let i = c.levels.invariant.place c.requires.held.0 r.others r.tallies in
    let within : level < length h.counts.items = omega (arith, r.tallies.size, i.1) in
    let counter = get_or_read h.counts.items level c.index.result.now within c.index.ensures 0 in
    let lower = not_top c.requires.held.0 c.args.n level h r.others r.tallies i.1 c.requires.within (omega (arith, counter, c.from.ensures, c.if-more-n.false, i.0)) in
    omega (arith, lower, r.tallies.short)

pub levels-preserved : goal.levels-preserved
levels-preserved c = record {
  place = λ top ns t.
      let h = c.args.self.now in
      let level = c.levels.level in
      let i = c.levels.invariant.place top ns t in
      let inside : level < length h.counts.items = omega (arith, t.size, i.1) in
      let counter = get_or_read h.counts.items level c.index.result.now inside c.index.ensures 0 in
      let lower = not_top top c.args.n level h ns t i.1 c.requires.within (omega (arith, counter, c.from.ensures, c.if-more-n.false, i.0)) in
      (omega (arith, counter, c.from.ensures, t.each level, i.0), omega (arith, lower));
  few = omega (arith, c.if-more-n.false);
}

pub returns-clause-tallies : goal.returns-clause-tallies
returns-clause-tallies c = λ top ns t.
    let i = c.levels.invariant.place top ns t in
    tallies_moved top c.args.self.now _ ns refl refl i.1 i.0 t
