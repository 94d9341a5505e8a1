use Rattle.std.proofs.Common.{arith}
use Rattle.mw_geodesic_levels.specs.Levels.{level_numbered}
use Rattle.mw_geodesic_levels.proofs.Blocks.{double_under, begun_still, doubled_more, doubled}
use Rattle.mw_geodesic_levels.proofs.runs.double.Goals as goal

pub loop-j-init : goal.loop-j-init
loop-j-init g c = record {
  begun = c.requires.run_begun;
  under = λ h old k lt. let low = old.under k (omega arith) in let same = c.requires.run_begun k lt in omega arith;
  made = record { before = c.requires.ways_begun; one = λ k low lt. absurd (omega arith); two = λ k low lt. absurd (omega arith) };
}

pub loop-j-preserved : goal.loop-j-preserved
loop-j-preserved g c =
    let level = g.P.Pixel.level in
    let from = level_numbered level c.args.from.now in
    let through = level_numbered level c.args.through.now in
    let now = level_numbered level c.loop-j.run in
    let next = level_numbered level c.put.new.samples in
    record {
      begun = begun_still from now next c.loop-j.j (level c.greater.result) (omega arith) c.put.ensures c.loop-j.invariant.begun;
      under = λ h old. double_under c.args.by from through now next h c.loop-j.j (level c.greater.result) (omega arith) (omega arith) c.requires.by (omega (arith, c.greater.ensures, c.lesser-s.ensures, c.at.ensures, c.at-in-loop-j.ensures, c.at-in-loop-j-2.ensures)) c.put.ensures old (c.loop-j.invariant.under h old);
      made = doubled_more c.args.by through (level_numbered level c.loop-j.ways) (level_numbered level c.put-in-loop-j.new.samples) c.loop-j.j (level c.lesser.result) (omega arith) (omega (arith, c.lesser.ensures, c.at-in-loop-j-3.ensures, c.at-in-loop-j-4.ensures)) c.put-in-loop-j.ensures c.loop-j.invariant.made;
    }

pub returns-clause-run_begun : goal.returns-clause-run_begun
returns-clause-run_begun g c = c.loop-j.invariant.begun

pub returns-clause-ways_begun : goal.returns-clause-ways_begun
returns-clause-ways_begun g c = c.loop-j.invariant.made.before

pub returns-clause-under : goal.returns-clause-under
returns-clause-under g c = λ h old.
    let level = g.P.Pixel.level in
    doubled c.args.by c.loop-j.j (level_numbered level c.args.from.now) (level_numbered level c.args.through.now) (level_numbered level c.loop-j.run) (level_numbered level c.loop-j.ways) h c.requires.by (omega arith) old (c.loop-j.invariant.under h old) c.loop-j.invariant.made
