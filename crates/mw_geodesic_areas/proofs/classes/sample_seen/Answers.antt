use Rattle.std.proofs.Common.{arith}
use Rattle.mw_geodesic_areas.proofs.Rasters.{seen_plainly, seen_turned}
use Rattle.mw_geodesic_areas.proofs.classes.sample_seen.Goals as goal

pub returns-then-task : goal.returns-then-task
returns-then-task g c =
    let task = c.args.task.now in
    seen_turned g.P.Pixel.level task.turned task.maxval task.samples.now c.args.i _ c.if-task.true c.requires.inside (omega (arith, c.sample_of.ensures, c.saturating_sub.ensures, c.value.ensures.level, c.at-sample.ensures))

pub returns : goal.returns
returns g c =
    let task = c.args.task.now in
    seen_plainly g.P.Pixel.level task.turned task.maxval task.samples.now c.args.i _ c.if-task.false c.at-sample.ensures
