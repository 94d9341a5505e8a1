use Rattle.std.proofs.Common.{◌+◌, arith, refl}
use Rattle.mw_rank.proofs.Counts.{tallies_moved, count_within}
use Rattle.mw_rank.proofs.histogram.Histogram.leap_up.Goals as goal

pub counted-more-requires-clause-held : goal.counted-more-requires-clause-held
counted-more-requires-clause-held c =
    let r = c.requires.held.1 in
    (c.requires.held.0, record { others = r.others; tallies = c.loop-self.invariant.tallies c.requires.held.0 r.others r.tallies; few = r.few })

pub overflow_add-self : goal.overflow_add-self
overflow_add-self c =
    let t = c.loop-self.invariant.tallies c.requires.held.0 c.requires.held.1.others c.requires.held.1.tallies in
    omega (arith, t.level, t.short)

pub overflow_cast-self : goal.overflow_cast-self
overflow_cast-self c =
    let t = c.loop-self.invariant.tallies c.requires.held.0 c.requires.held.1.others c.requires.held.1.tallies in
    omega (arith, t.level, t.short)

pub overflow_add-below : goal.overflow_add-below
overflow_add-below c =
    let r = c.requires.held.1 in
    let t = c.loop-self.invariant.tallies c.requires.held.0 r.others r.tallies in
    omega (arith, t.below, c.counted-more.ensures c.requires.held.0 r.others t, count_within (c.loop-self.self.level + 64) r.others, r.few)

pub loop-self-preserved : goal.loop-self-preserved
loop-self-preserved c = record {
  tallies = λ top ns before.
      let t = c.loop-self.invariant.tallies top ns before in
      tallies_moved top c.loop-self.self _ ns refl refl (omega (arith, t.size, c.loop-self-test.true)) (omega (arith, t.below, c.counted-more.ensures top ns t)) t;
  held = c.loop-self.invariant.held;
  few = omega arith;
  size = c.loop-self.invariant.size;
}
