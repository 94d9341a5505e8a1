use Rattle.std.proofs.Common.{ℕ, subst, slice_index, arith}
use Rattle.mw_geodesic_levels.specs.Levels.{level_numbered}
use Rattle.mw_geodesic_areas.specs.Seen.{level_seen}
use Rattle.mw_geodesic_areas.specs.Problems.{problem}
use Rattle.mw_geodesic_areas.specs.Classes.{HasItsLevel}
use Rattle.mw_geodesic_areas.proofs.Joins.{found_both, meets_same, meets_large, meets_merged, meets_turned}
use Rattle.mw_geodesic_areas.proofs.Rows.{symmetric}
use Rattle.mw_geodesic_areas.proofs.classes.join.Goals as goal

pub returns-then-r-s-clause-met : goal.returns-then-r-s-clause-met
returns-then-r-s-clause-met g c =
    let level = g.P.Pixel.level in
    meets_same (problem c.args.task.now.frame (level_seen level c.args.task.now.turned c.args.task.now.maxval c.args.task.now.samples.now) c.args.task.now.least) c.args.p c.args.q c.find-r.result c.find-s.result (slice_index c.args.links.now) (level_numbered level c.args.out.now)
    c.args.parent.now c.find-s.new.parent c.requires.first c.requires.second (symmetric c.args.task.now.frame.corners)
    (found_both c.args.parent.now c.find-r.new.parent c.find-s.new.parent c.args.p c.args.q c.find-r.result c.find-s.result c.find-r.ensures.keeps c.find-s.ensures.keeps c.find-r.ensures.root c.find-s.ensures.root) c.if-r-s.true

pub returns-then-is_large-clause-met : goal.returns-then-is_large-clause-met
returns-then-is_large-clause-met g c =
    let level = g.P.Pixel.level in
    let out = level_numbered level c.args.out.now in
    let out' = level_numbered level c.settle.new.out in
    let out'' = level_numbered level c.settle-then-is_large.new.out in
    meets_large (problem c.args.task.now.frame (level_seen level c.args.task.now.turned c.args.task.now.maxval c.args.task.now.samples.now) c.args.task.now.least) c.args.p c.args.q c.find-r.result c.find-s.result (slice_index c.args.links.now) out out' out''
    c.args.parent.now c.find-s.new.parent c.requires.first c.requires.second (symmetric c.args.task.now.frame.corners)
    (found_both c.args.parent.now c.find-r.new.parent c.find-s.new.parent c.args.p c.args.q c.find-r.result c.find-s.result c.find-r.ensures.keeps c.find-s.ensures.keeps c.find-r.ensures.root c.find-s.ensures.root)
    c.if-r-s.false (c.is_large.ensures.yes c.if-is_large.true) (subst (λ (v : ℕ). HasItsLevel v c.find-r.result out out') c.sample_seen-sample.ensures c.settle.ensures) (subst (λ (v : ℕ). HasItsLevel v c.find-s.result out' out'') c.sample_seen-sample.ensures c.settle-then-is_large.ensures)

pub returns-then-r-s-2-clause-met : goal.returns-then-r-s-2-clause-met
returns-then-r-s-2-clause-met g c =
    let level = g.P.Pixel.level in
    meets_merged (problem c.args.task.now.frame (level_seen level c.args.task.now.turned c.args.task.now.maxval c.args.task.now.samples.now) c.args.task.now.least) c.args.p c.args.q c.find-r.result c.find-s.result (slice_index c.args.links.now) (level_numbered level c.args.out.now) (slice_index c.link.new.links)
    c.args.parent.now c.find-s.new.parent c.link.new.parent c.requires.first c.requires.second (symmetric c.args.task.now.frame.corners)
    (found_both c.args.parent.now c.find-r.new.parent c.find-s.new.parent c.args.p c.args.q c.find-r.result c.find-s.result c.find-r.ensures.keeps c.find-s.ensures.keeps c.find-r.ensures.root c.find-s.ensures.root)
    c.if-r-s-2.true (omega (arith, c.find-s.ensures.lower, c.requires.second, c.requires.size)) (omega (arith, c.requires.size)) (c.is_large.ensures.no c.if-is_large.false) c.link.ensures.size c.link.ensures.parent

pub returns-else-r-s-2-clause-met : goal.returns-else-r-s-2-clause-met
returns-else-r-s-2-clause-met g c =
    let level = g.P.Pixel.level in
    meets_turned (problem c.args.task.now.frame (level_seen level c.args.task.now.turned c.args.task.now.maxval c.args.task.now.samples.now) c.args.task.now.least) c.args.p c.args.q c.find-r.result c.find-s.result (slice_index c.args.links.now) (level_numbered level c.args.out.now) (slice_index c.link-else-r-s-2.new.links)
    c.args.parent.now c.find-s.new.parent c.link-else-r-s-2.new.parent c.requires.first c.requires.second (symmetric c.args.task.now.frame.corners)
    (found_both c.args.parent.now c.find-r.new.parent c.find-s.new.parent c.args.p c.args.q c.find-r.result c.find-s.result c.find-r.ensures.keeps c.find-s.ensures.keeps c.find-r.ensures.root c.find-s.ensures.root)
    (omega arith) (omega (arith, c.find-r.ensures.lower, c.requires.first, c.requires.size)) (omega (arith, c.requires.size)) (c.is_large.ensures.no c.if-is_large.false) c.link-else-r-s-2.ensures.size c.link-else-r-s-2.ensures.parent
