use Rattle.std.proofs.Common.{ℕ, subst, refl, slice_index}
use Rattle.std.proofs.lemmas.Nat.{div-add-mod'}
use Rattle.mw_geodesic_levels.specs.Levels.{level_numbered}
use Rattle.mw_geodesic_areas.specs.Seen.{level_seen}
use Rattle.mw_geodesic_areas.specs.Problems.{problem}
use Rattle.mw_geodesic_areas.specs.Classes.{IsBegun, MeetsAll}
use Rattle.mw_geodesic_areas.proofs.Chained.{place_taken}
use Rattle.mw_geodesic_areas.proofs.taking.take.Goals as goal

pub returns-clause-taken : goal.returns-clause-taken
returns-clause-taken g c = λ some s.
    let level = g.P.Pixel.level in
    let a = problem c.args.task.now.frame (level_seen level c.args.task.now.turned c.args.task.now.maxval c.args.task.now.samples.now) c.args.task.now.least in
    let p = c.args.p in
    let size = slice_index c.args.links.now in
    let out = level_numbered level c.args.out.now in
    let size' = slice_index c.begin.new.links in
    let out' = level_numbered level c.begin.new.out in
    let size'' = slice_index c.touch_around.new.links in
    let out'' = level_numbered level c.touch_around.new.out in
    place_taken a p (size p) c.args.parent.now c.touch_around.new.parent size out size' out' size'' out'' c.requires.within some refl
    (subst (λ (v : ℕ). IsBegun c.args.task.now.least v p size out size' out') c.sample_seen-sample.ensures c.begin.ensures)
    (subst (λ (n : ℕ). MeetsAll a n c.args.parent.now size' out' c.touch_around.new.parent size'' out'') (div-add-mod' p c.args.task.now.frame.width) c.touch_around.ensures.met) s
