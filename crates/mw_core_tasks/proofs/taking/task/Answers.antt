use Rattle.std.proofs.Common.{◌<◌, length, map, refl, sym, ap, ◌∙◌, subst, arith}
use Rattle.mw_model.specs.declared.offsets.Rect.{Rect}
use Rattle.mw_model.specs.Plans.{Planned}
use Rattle.mw_model.specs.Tasks.{planned_of}
use Rattle.mw_core_laws.specs.mw_core_progress.ProgressView.{number_of}
use Rattle.mw_core_laws.proofs.Numbers.{length-tiles, number_of-within, planned_of-number_of}
use Rattle.mw_model.specs.Values.{image_of, value_at}
use Rattle.std.specs.Prelude.{IfSome, List, Option, option_map}
use Rattle.std.specs.List.{AllByRecursion}
use Rattle.mw_core_laws.specs.mw_step_task.WindowTasks.{IsBounded}
use Rattle.std.proofs.lemmas.Option.{none-some}
use Rattle.mw_core_laws.specs.mw_tile.Windows.{SourceWindow, window_of}
use Rattle.mw_core_tasks.specs.SourceWindows.{AreSources, CanReadAll}
use Rattle.mw_core_tasks.proofs.ReadingLemmas.{some-items, place-is, place-some, task-can-read, task-is, task-or-none}
use Rattle.mw_core_tasks.proofs.taking.task.Goals as goal

pub windows-requires-clause-there : goal.windows-requires-clause-there
windows-requires-clause-there c =
    let u = c.args.progress.now in
    let id = c.args.id in
    let whole = c.remaining-whole.ensures.whole in
    let n = number_of u.progress id.step id.tile in
    let counted : id.tile < length u.progress.tiles = omega (arith, c.requires.tile, length-tiles u whole) in
    let within = number_of-within u.progress id.step id.tile c.requires.step counted in
    let planned = planned_of-number_of u.progress id.step id.tile counted in
    let place = place-is u id.step id.tile c.grid-grid.result c.reach.result _ c.window-place.result whole c.requires.tile c.grid-grid.ensures c.step-planned.ensures c.reach.ensures c.window-place.ensures.value in
    let At : Rect → Type 0 = λ r. CanReadAll u r (planned_of u.progress n).sources in
    let Of : Planned → Type 0 = λ q. CanReadAll u c.window-place.result q.sources in
    subst Of (planned ∙ sym c.step-planned.ensures) (subst At (sym place) (task-can-read u n whole within c.requires.runs))

pub windows-requires-clause-some : goal.windows-requires-clause-some
windows-requires-clause-some c =
    place-some c.args.progress.now c.args.id.tile c.grid-grid.result c.reach.result c.window-place.result c.remaining-whole.ensures.whole c.requires.tile c.grid-grid.ensures c.window-place.ensures.value

pub returns-in_default : goal.returns-in_default
returns-in_default c = λ fs sources fits.
    let u = c.args.progress.now in
    let id = c.args.id in
    let whole = c.remaining-whole.ensures.whole in
    let counted : id.tile < length u.progress.tiles = omega (arith, c.requires.tile, length-tiles u whole) in
    let planned = planned_of-number_of u.progress id.step id.tile counted in
    let image = image_of (value_at c.args.store.now.kept c.args.image) in
    let Of : Planned → Type 0 = λ q. AreSources image u q.sources fs in
    let seen = c.in_ok-windows.ensures.windows fs (subst Of (planned ∙ sym c.step-planned.ensures) sources) in
    let none = c.in_default.is in
    absurd (none-some _ (sym (ap (option_map (λ v. v.items)) none) ∙ seen))

pub returns : goal.returns
returns c =
    let u = c.args.progress.now in
    let id = c.args.id in
    let whole = c.remaining-whole.ensures.whole in
    let counted : id.tile < length u.progress.tiles = omega (arith, c.requires.tile, length-tiles u whole) in
    let planned = planned_of-number_of u.progress id.step id.tile counted in
    let image = image_of (value_at c.args.store.now.kept c.args.image) in
    let place = place-is u id.step id.tile c.grid-grid.result c.reach.result _ c.window-place.result whole c.requires.tile c.grid-grid.ensures c.step-planned.ensures c.reach.ensures c.window-place.ensures.value in
    let Bounded : Option (List SourceWindow) → Type 0 = λ o. IfSome o (AllByRecursion IsBounded) in
    task-or-none image id.ticket u (number_of u.progress id.step id.tile) c.new.result _ c.new.ensures.fits c.new.ensures.value refl (subst Bounded (ap (option_map (λ v. v.items)) c.in-Some.is) c.in_ok-windows.ensures.bounded) (λ fs sources.
    let Of : Planned → Type 0 = λ q. AreSources image u q.sources fs in
    let seen = c.in_ok-windows.ensures.windows fs (subst Of (planned ∙ sym c.step-planned.ensures) sources) in
    let items = some-items (ap (option_map (λ v. v.items)) c.in-Some.is) seen in
    task-is id.ticket u id.step id.tile c.grid-grid.result c.rect-rect.result _ _ _ fs whole c.requires.tile c.grid-grid.ensures c.step-planned.ensures c.in_ok-share.ensures c.rect-rect.ensures.value
    (items ∙ ap (λ (r : Rect). map (window_of r) fs) place))
