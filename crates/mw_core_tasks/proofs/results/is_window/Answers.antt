use Rattle.std.proofs.Common.{ℕ, sym, ap, subst, arith}
use Rattle.mw_model.specs.Plans.{FromStep, Source}
use Rattle.mw_model.specs.Values.{image_of, value_at}
use Rattle.mw_core_laws.specs.mw_plan.Seen.{source}
use Rattle.mw_core_laws.specs.mw_tile_planes.Tiles.{HasAll}
use Rattle.mw_core_laws.specs.mw_core_progress.ProgressView.{plane_at}
use Rattle.mw_core_tasks.specs.Results.{WindowIsShown}
use Rattle.mw_core_tasks.specs.SourceWindows.{CanRead}
use Rattle.mw_core_tasks.proofs.ResultLemmas.{input-shown, step-shown}
use Rattle.mw_core_tasks.proofs.results.is_window.Goals as goal

pub matches-requires-in-Step-clause-placed : goal.matches-requires-in-Step-clause-placed
matches-requires-in-Step-clause-placed c =
    let Reads : Source → Type 0 = λ s. CanRead c.args.progress.now c.args.reading.place s in
    let Placed : ℕ → Type 0 = λ k. HasAll c.args.progress.now.tiling (plane_at c.args.progress.now k).tiles c.args.reading.place in
    subst Placed (sym c.from.ensures) (subst Reads (ap source c.in-Step.is) c.requires.there).2

pub returns-in-Step-clause-shown : goal.returns-in-Step-clause-shown
returns-in-Step-clause-shown c = λ holds.
    let u = c.args.progress.now in
    let place = c.args.reading.place in
    let image = image_of (value_at c.args.store.now.kept c.args.reading.image) in
    let Reads : Source → Type 0 = λ s. CanRead u place s in
    let Shown : Source → Type 0 = λ s. WindowIsShown image u place s c.args.window.now in
    let Of : ℕ → Type 0 = λ k. WindowIsShown image u place (FromStep k) c.args.window.now in
    let known = (subst Reads (ap source c.in-Step.is) c.requires.there).0 in
    let matched = c.matches-in-Step.ensures in
    let shown = step-shown image u place c.from.result c.args.window.now c.remaining-whole.ensures.whole (omega (arith, known, c.from.ensures)) (λ f plane. (matched.same f plane).0 holds) (matched.level holds) (matched.bounded holds) in
    subst Shown (sym (ap source c.in-Step.is)) (subst Of c.from.ensures shown)

pub returns-else-not-has_level-clause-shown : goal.returns-else-not-has_level-clause-shown
returns-else-not-has_level-clause-shown c = λ holds.
    let u = c.args.progress.now in
    let place = c.args.reading.place in
    let image = image_of (value_at c.args.store.now.kept c.args.reading.image) in
    let Shown : Source → Type 0 = λ s. WindowIsShown image u place s c.args.window.now in
    subst Shown (sym (ap source c.in-Input.is))
    (input-shown image u place c.in-Input.field-0 c.args.window.now (c.has_frame.ensures.frame c.if-not-has_frame.false) (c.has_level.ensures.0 c.if-not-has_level.false) c.image_shape-picture.ensures.picture c.requires.within (c.matches.ensures.0 holds))
