use Rattle.std.proofs.Common.{◌+◌, ◌*◌, refl, slice_index}
use Rattle.mw_geodesic_levels.specs.Levels.{level_numbered}
use Rattle.mw_geodesic_areas.specs.Seen.{level_seen}
use Rattle.mw_geodesic_areas.proofs.Rows.{rows_met}
use Rattle.mw_geodesic_areas.proofs.classes.touch_around.Goals as goal

pub returns-clause-met : goal.returns-clause-met
returns-clause-met g c =
    let level = g.P.Pixel.level in
    let x = c.args.place.x in
    let y = c.args.place.y in
    rows_met c.args.task.now.frame (level_seen level c.args.task.now.turned c.args.task.now.maxval c.args.task.now.samples.now) c.args.task.now.least x y c.above.result c.below.result (y * c.args.task.now.frame.width + x)
    c.args.parent.now c.touch_row.new.parent c.touch_row-2.new.parent c.touch_row-3.new.parent
    (slice_index c.args.links.now) (level_numbered level c.args.out.now) (slice_index c.touch_row.new.links) (level_numbered level c.touch_row.new.out) (slice_index c.touch_row-2.new.links) (level_numbered level c.touch_row-2.new.out) (slice_index c.touch_row-3.new.links) (level_numbered level c.touch_row-3.new.out)
    c.requires.column c.requires.row refl c.above.ensures.each c.below.ensures.each c.touch_row.ensures.met c.touch_row-2.ensures.met c.touch_row-3.ensures.met
