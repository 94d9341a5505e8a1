use Rattle.std.proofs.Common.{ℕ, sym, subst, slice_index, arith}
use Rattle.mw_geodesic_levels.specs.Levels.{level_numbered}
use Rattle.mw_geodesic_areas.specs.Seen.{level_seen}
use Rattle.mw_geodesic_areas.specs.Problems.{problem, IsOpened}
use Rattle.mw_geodesic_areas.proofs.Opened.{opened_by}
use Rattle.mw_geodesic_areas.proofs.opening.open.Goals as goal

pub returns : goal.returns
returns g c = λ i lt.
    let level = g.P.Pixel.level in
    let a = problem c.args.task.now.frame (level_seen level c.args.task.now.turned c.args.task.now.maxval c.args.task.now.samples.now) c.args.task.now.least in
    let s = c.take_all.ensures.standing in
    subst (λ (v : ℕ). IsOpened a v i) (sym (c.resolve.ensures s.roots s.are i (omega (arith, lt))))
    (opened_by a s.roots (slice_index c.take_all.new.links) (level_numbered level c.take_all.new.out) s.stands i (omega (arith, lt, c.requires.out)))
