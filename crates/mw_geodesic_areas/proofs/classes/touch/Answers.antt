use Rattle.std.proofs.Common.{slice_index}
use Rattle.mw_geodesic_levels.specs.Levels.{level_numbered}
use Rattle.mw_geodesic_areas.specs.Problems.{problem}
use Rattle.mw_geodesic_areas.specs.Seen.{level_seen}
use Rattle.mw_geodesic_areas.specs.Classes.{WasTaken}
use Rattle.mw_geodesic_areas.proofs.Joins.{meets_not, not_both}
use Rattle.mw_geodesic_areas.proofs.classes.touch.Goals as goal

pub returns-else-is_taken-clause-met : goal.returns-else-is_taken-clause-met
returns-else-is_taken-clause-met g c =
    let task = c.args.task.now in
    let level = g.P.Pixel.level in
    let levels = level_seen level task.turned task.maxval task.samples.now in
    meets_not (problem task.frame levels task.least) c.args.p c.args.q (WasTaken levels (levels c.args.p) c.args.p c.args.q) c.args.parent.now (slice_index c.args.links.now) (level_numbered level c.args.out.now)
    (λ taken. not_both c.is_taken.result (c.is_taken.ensures.1 taken) c.if-is_taken.false)
