use Rattle.std.proofs.Common.{◌≡◌, ◌<◌, false, length, get_or, sym, subst}
use Rattle.mw_model.specs.Plans.{is_sum}
use Rattle.mw_model.specs.Tasks.{nothing_planned}
use Rattle.mw_core_progress.specs.ProgressView.{ProgressView}
use Rattle.mw_core_progress.proofs.Windows.{no_sums}
use Rattle.mw_core_progress.proofs.progress.PlanProgress.level.Goals as goal

pub level-level-requires : goal.level-level-requires
level-level-requires c =
    let i = c.self.inside in
    let Known : ProgressView → Type 0 = λ u. (c.args.step < length u.progress.plan) × (is_sum (get_or u.progress.plan c.args.step nothing_planned).step ≡ false) in
    let here = subst Known (sym c.self.view_is) (c.requires.step, c.requires.plane) in
    no_sums i.plan i.input i.grid i.ready i.places.items c.args.step c.index.result.now c.self.invariant.0 c.self.invariant.2 here.0 here.1 c.index.ensures
