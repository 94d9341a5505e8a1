use Rattle.std.proofs.Common.{arith, refl}
use Rattle.mw_rank.proofs.Counts.{tallies_moved}
use Rattle.mw_rank.proofs.histogram.Histogram.leap_down.Goals as goal

pub counted-less-requires-clause-held : goal.counted-less-requires-clause-held
counted-less-requires-clause-held c =
    let r = c.requires.1 in
    (c.requires.0, record { others = r.others; tallies = c.loop-self.invariant.tallies c.requires.0 r.others r.tallies; few = r.few })

pub counted-less-requires-clause-within : goal.counted-less-requires-clause-within
counted-less-requires-clause-within c =
    let t = c.loop-self.invariant.tallies c.requires.0 c.requires.1.others c.requires.1.tallies in
    omega (arith, t.size, t.level)

pub overflow_sub-below : goal.overflow_sub-below
overflow_sub-below c =
    let t = c.loop-self.invariant.tallies c.requires.0 c.requires.1.others c.requires.1.tallies in
    omega (arith, t.below, c.counted-less.ensures c.requires.0 c.requires.1.others t)

pub loop-self-preserved : goal.loop-self-preserved
loop-self-preserved c = record {
  tallies = λ top ns before.
      let t = c.loop-self.invariant.tallies top ns before in
      tallies_moved top c.loop-self.self _ ns refl refl (omega (arith, t.level)) (omega (arith, t.below, c.counted-less.ensures top ns t)) t;
  held = c.loop-self.invariant.held;
  many = λ many. omega arith;
}
