use Rattle.std.proofs.Common.{◌≡◌, ◌<◌, true, false, List, sym, ◌∙◌, subst}
use Rattle.std.proofs.lemmas.Bool.{false≢true}
use Rattle.mw_model.specs.Values.{image_of, value_at}
use Rattle.mw_grid.specs.Grids.{Tiling, tile_count}
use Rattle.mw_core_laws.specs.mw_plan.Seen.{planned}
use Rattle.mw_core_laws.specs.mw_tile.Windows.{SourceWindow}
use Rattle.mw_core_tasks.specs.Results.{AreShown}
use Rattle.mw_core_tasks.proofs.ReadingLemmas.{place-some}
use Rattle.mw_core_tasks.proofs.ResultLemmas.{found-of-running, found-sources, found-windows, looked-up, looked-up-there, result-of, running-of}
use Rattle.mw_core_tasks.proofs.results.is_result.Goals as goal

pub returns-then-not-is_of_running-clause-all : goal.returns-then-not-is_of_running-clause-all
returns-then-not-is_of_running-clause-all c = λ found.
    let is : c.is_of_running.result ≡ true = c.is_of_running.ensures.all (found-of-running _ c.args.progress.now c.args.done.now found) in
    let not : c.is_of_running.result ≡ false = c.if-not-is_of_running.true in
    absurd (false≢true (sym not ∙ is))

pub step-planned-requires : goal.step-planned-requires
step-planned-requires c = (running-of c.args.progress.now c.args.done.now c.task-id.result c.task-id.ensures (c.is_of_running.ensures.is c.if-not-is_of_running.false)).0

pub window-place-requires : goal.window-place-requires
window-place-requires c =
    let runs = running-of c.args.progress.now c.args.done.now c.task-id.result c.task-id.ensures (c.is_of_running.ensures.is c.if-not-is_of_running.false) in
    let Inside : Tiling → Type 0 = λ g. c.task-id.result.tile < tile_count g in
    subst Inside (sym c.grid-grid.ensures) runs.1

pub are_windows-requires-clause-some : goal.are_windows-requires-clause-some
are_windows-requires-clause-some c =
    let runs = running-of c.args.progress.now c.args.done.now c.task-id.result c.task-id.ensures (c.is_of_running.ensures.is c.if-not-is_of_running.false) in
    place-some c.args.progress.now c.task-id.result.tile c.grid-grid.result c.reach.result c.window-place.result c.remaining-whole.ensures.whole runs.1 c.grid-grid.ensures c.window-place.ensures.value

pub are_windows-requires-clause-there : goal.are_windows-requires-clause-there
are_windows-requires-clause-there c =
    let u = c.args.progress.now in
    let d = c.args.done.now in
    let q = planned c.step-planned.result.now in
    looked-up-there u d q c.window-place.result
    (looked-up u d c.task-id.result c.grid-grid.result c.reach.result q c.window-place.result c.task-id.ensures c.remaining-whole.ensures.whole c.grid-grid.ensures c.step-planned.ensures c.reach.ensures c.window-place.ensures.value
    (c.is_of_running.ensures.is c.if-not-is_of_running.false))

pub returns-clause-result : goal.returns-clause-result
returns-clause-result c = λ holds.
    let u = c.args.progress.now in
    let d = c.args.done.now in
    let image = image_of (value_at c.args.store.now.kept c.args.image) in
    let q = planned c.step-planned.result.now in
    let at = looked-up u d c.task-id.result c.grid-grid.result c.reach.result q c.window-place.result c.task-id.ensures c.remaining-whole.ensures.whole c.grid-grid.ensures c.step-planned.ensures c.reach.ensures c.window-place.ensures.value
    (c.is_of_running.ensures.is c.if-not-is_of_running.false) in
    let Shown : List SourceWindow → Type 0 = λ ws. AreShown image u c.window-place.result q.sources ws in
    result-of image u d q c.window-place.result at (subst Shown c.windows.ensures.value (c.are_windows.ensures.shown holds))

pub returns-clause-all : goal.returns-clause-all
returns-clause-all c = λ found.
    let u = c.args.progress.now in
    let d = c.args.done.now in
    let image = image_of (value_at c.args.store.now.kept c.args.image) in
    let q = planned c.step-planned.result.now in
    let at = looked-up u d c.task-id.result c.grid-grid.result c.reach.result q c.window-place.result c.task-id.ensures c.remaining-whole.ensures.whole c.grid-grid.ensures c.step-planned.ensures c.reach.ensures c.window-place.ensures.value
    (c.is_of_running.ensures.is c.if-not-is_of_running.false) in
    c.are_windows.ensures.all found.sources (found-sources image u d q at.whole at.planned found) found.level (c.windows.ensures.value ∙ found-windows image u d c.window-place.result at.reads found)
