use Rattle.std.proofs.Common.{ℕ, ap, sym, subst}
use Rattle.mw_model.specs.Plans.{Source}
use Rattle.mw_model.specs.Values.{image_of, value_at}
use Rattle.mw_core_laws.specs.mw_plan.Seen.{source}
use Rattle.mw_core_laws.specs.mw_tile_planes.Tiles.{HasAll}
use Rattle.mw_core_laws.specs.mw_core_progress.ProgressView.{plane_at}
use Rattle.mw_core_tasks.specs.SourceWindows.{CanRead}
use Rattle.mw_core_tasks.proofs.ReadingLemmas.{window-bounded}
use Rattle.mw_core_tasks.proofs.reading.window.Goals as goal

pub window-requires-in-Step-clause-placed : goal.window-requires-in-Step-clause-placed
window-requires-in-Step-clause-placed c =
    let Reads : Source → Type 0 = λ s. CanRead c.args.progress.now c.args.reading.place s in
    let Placed : ℕ → Type 0 = λ k. HasAll c.args.progress.now.tiling (plane_at c.args.progress.now k).tiles c.args.reading.place in
    subst Placed (sym c.from.ensures) (subst Reads (ap source c.in-Step.is) c.requires.there).2

pub returns-else-not-has_frame-clause-bounded : goal.returns-else-not-has_frame-clause-bounded
returns-else-not-has_frame-clause-bounded c =
    window-bounded (image_of (value_at c.args.store.now.kept c.args.reading.image)) c.args.reading.place c.args.progress.now.tiling.width c.args.progress.now.tiling.height c.window.result (c.has_frame.ensures.frame c.if-not-has_frame.false) c.image_shape-picture.ensures.picture c.requires.within c.window.ensures.window
