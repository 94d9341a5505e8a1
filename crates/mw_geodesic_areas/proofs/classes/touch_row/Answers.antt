use Rattle.std.proofs.Common.{ℕ, subst, slice_index}
use Rattle.mw_geodesic_levels.specs.Levels.{level_numbered}
use Rattle.mw_geodesic_areas.specs.Seen.{level_seen}
use Rattle.mw_geodesic_areas.specs.Problems.{problem}
use Rattle.mw_geodesic_areas.specs.Classes.{MeetsRow}
use Rattle.mw_geodesic_areas.proofs.Rows.{Row, row_met, row_met_straight}
use Rattle.mw_geodesic_areas.proofs.classes.touch_row.Goals as goal

pub returns-clause-met : goal.returns-clause-met
returns-clause-met g c =
    let level = g.P.Pixel.level in
    let frame = c.args.task.now.frame in
    let levels = level_seen level c.args.task.now.turned c.args.task.now.maxval c.args.task.now.samples.now in
    let x = c.args.place.x in
    let y = c.args.place.y in
    let row : Row frame x y c.args.v c.reach-far.result c.saturating_sub-left.result c.min-right.result c.number-p.result c.number-first.result c.number-middle.result c.number-last.result = record {
      column = c.requires.column;
      row = c.requires.row;
      other = c.requires.other;
      small = c.reach-far.ensures.small;
      near = c.reach-far.ensures.near;
      back = c.reach-far.ensures.back c.requires.up c.requires.down;
      left_is = c.saturating_sub-left.ensures;
      right_is = c.min-right.ensures;
      at = c.number-p.ensures.value;
      first = c.number-first.ensures.value;
      middle = c.number-middle.ensures.value;
      last = c.number-last.ensures.value;
    } in
    subst (λ (n : ℕ). MeetsRow (problem frame levels c.args.task.now.least) n x y c.args.v c.args.parent.now (slice_index c.args.links.now) (level_numbered level c.args.out.now) c.touch-3.new.parent (slice_index c.touch-3.new.links) (level_numbered level c.touch-3.new.out))
    c.number-p.ensures.value
    (row_met frame levels c.args.task.now.least x y c.args.v c.reach-far.result c.saturating_sub-left.result c.min-right.result c.number-p.result c.number-first.result c.number-middle.result c.number-last.result
    c.args.parent.now c.touch.new.parent c.touch-2.new.parent c.touch-3.new.parent
    (slice_index c.args.links.now) (level_numbered level c.args.out.now) (slice_index c.touch.new.links) (level_numbered level c.touch.new.out) (slice_index c.touch-2.new.links) (level_numbered level c.touch-2.new.out) (slice_index c.touch-3.new.links) (level_numbered level c.touch-3.new.out)
    row c.touch.ensures.met c.touch-2.ensures.met c.touch-3.ensures.met)

pub returns-then-far-eq0-clause-met : goal.returns-then-far-eq0-clause-met
returns-then-far-eq0-clause-met g c =
    let level = g.P.Pixel.level in
    let frame = c.args.task.now.frame in
    let levels = level_seen level c.args.task.now.turned c.args.task.now.maxval c.args.task.now.samples.now in
    let x = c.args.place.x in
    let y = c.args.place.y in
    subst (λ (n : ℕ). MeetsRow (problem frame levels c.args.task.now.least) n x y c.args.v c.args.parent.now (slice_index c.args.links.now) (level_numbered level c.args.out.now) c.touch.new.parent (slice_index c.touch.new.links) (level_numbered level c.touch.new.out))
    c.number-p.ensures.value
    (row_met_straight frame levels c.args.task.now.least x y c.args.v c.reach-far.result c.number-p.result c.number-middle.result c.args.parent.now c.touch.new.parent (slice_index c.args.links.now) (level_numbered level c.args.out.now) (slice_index c.touch.new.links) (level_numbered level c.touch.new.out)
    c.requires.column c.requires.row c.requires.other c.if-far-eq0.true c.reach-far.ensures.near (c.reach-far.ensures.back c.requires.up c.requires.down) c.number-p.ensures.value c.number-middle.ensures.value c.touch.ensures.met)
