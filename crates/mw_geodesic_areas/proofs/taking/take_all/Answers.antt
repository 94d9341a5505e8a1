use Rattle.std.proofs.Common.{◌+◌, slice_index, arith, ap}
use Rattle.mw_geodesic_levels.specs.Levels.{level_numbered}
use Rattle.mw_geodesic_areas.specs.Seen.{level_seen}
use Rattle.mw_geodesic_areas.specs.Problems.{problem}
use Rattle.mw_geodesic_areas.proofs.Chained.{all_first}
use Rattle.mw_geodesic_areas.proofs.Roots.{alone_forest}
use Rattle.mw_geodesic_areas.proofs.taking.take_all.Goals as goal

pub loop-level-init : goal.loop-level-init
loop-level-init g c =
    let level = g.P.Pixel.level in
    let chained = c.requires.chained in
    record {
      forest = alone_forest c.args.parent.now c.requires.alone;
      low = c.value-level.ensures.small;
      standing = all_first (problem c.args.task.now.frame (level_seen level c.args.task.now.turned c.args.task.now.maxval c.args.task.now.samples.now) c.args.task.now.least) (c.value-level.result + 1) c.args.parent.now (slice_index c.args.links.now) (level_numbered level c.args.out.now) c.requires.alone
          (λ i lt. let low = chained.low i lt in omega (arith, c.value-level.ensures.level, ap level c.TOP.ensures, g.met.P.Pixel.top_is_top)) (λ i lt. c.requires.blank i (omega arith)) (λ i lt. chained.link i lt);
    }
