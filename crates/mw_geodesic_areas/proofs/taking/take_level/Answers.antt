use Rattle.std.proofs.Common.{◌-◌, slice_index, arith}
use Rattle.mw_geodesic_levels.specs.Levels.{level_numbered}
use Rattle.mw_geodesic_areas.specs.Seen.{level_seen}
use Rattle.mw_geodesic_areas.specs.Problems.{problem}
use Rattle.mw_geodesic_areas.proofs.Chained.{level_stands, goes_on}
use Rattle.mw_geodesic_areas.proofs.taking.take_level.Goals as goal

pub loop-next-init : goal.loop-next-init
loop-next-init g c =
    let level = g.P.Pixel.level in
    let last = c.requires.last in
    record {
      forest = c.requires.forest;
      within = last.before;
      there = last.there;
      standing = level_stands (problem c.args.task.now.frame (level_seen level c.args.task.now.turned c.args.task.now.maxval c.args.task.now.samples.now) c.args.task.now.least) c.args.level c.args.head c.args.parent.now (slice_index c.args.links.now) (level_numbered level c.args.out.now) c.requires.last c.requires.standing;
    }

pub loop-next-preserved : goal.loop-next-preserved
loop-next-preserved g c =
    let level = g.P.Pixel.level in
    let l = c.loop-next in
    let on = goes_on (problem c.args.task.now.frame (level_seen level c.args.task.now.turned c.args.task.now.maxval c.args.task.now.samples.now) c.args.task.now.least) c.args.level l.next (l.next - 1) c.take-next.result l.parent c.take-next.new.parent (slice_index l.links) (level_numbered level l.out) (slice_index c.take-next.new.links) (level_numbered level c.take-next.new.out)
    (omega arith) c.requires.level l.invariant.there l.invariant.standing c.take-next.ensures.taken in
    record {
      forest = c.take-next.ensures.forest;
      within = let before = on.before in let within = l.invariant.within in omega arith;
      there = on.there;
      standing = on.standing;
    }

pub loop-next-smaller : goal.loop-next-smaller
loop-next-smaller g c =
    let level = g.P.Pixel.level in
    let l = c.loop-next in
    let on = goes_on (problem c.args.task.now.frame (level_seen level c.args.task.now.turned c.args.task.now.maxval c.args.task.now.samples.now) c.args.task.now.least) c.args.level l.next (l.next - 1) c.take-next.result l.parent c.take-next.new.parent (slice_index l.links) (level_numbered level l.out) (slice_index c.take-next.new.links) (level_numbered level c.take-next.new.out)
    (omega arith) c.requires.level l.invariant.there l.invariant.standing c.take-next.ensures.taken in
    let before = on.before in
    omega arith
