use Rattle.std.proofs.Common.{sym, subst}
use Rattle.mw_core_progress.specs.ProgressView.{ProgressView}
use Rattle.mw_core_progress.proofs.Windows.{Asked, is_open, asked_of}
use Rattle.mw_core_progress.proofs.progress.PlanProgress.matches.Goals as goal

pub matches-requires-clause-placed : goal.matches-requires-clause-placed
matches-requires-clause-placed c =
    let i = c.self.inside in
    let asked : Asked c.args.self.now c.args.step c.args.rect = record { known = c.requires.step; plane = c.requires.plane; wide = c.requires.some.0; high = c.requires.some.1; within = c.requires.within; placed = c.requires.placed } in
    let here = subst (λ (u : ProgressView). Asked u c.args.step c.args.rect) (sym c.self.view_is) asked in
    (asked_of i.plan i.input i.grid i.ready i.places.items c.args.step c.args.rect c.index.result.now c.in-Plane.plane c.self.invariant.0 here c.index.ensures c.in-Plane.is).1

pub unreachable-requires : goal.unreachable-requires
unreachable-requires c =
    let i = c.self.inside in
    let asked : Asked c.args.self.now c.args.step c.args.rect = record { known = c.requires.step; plane = c.requires.plane; wide = c.requires.some.0; high = c.requires.some.1; within = c.requires.within; placed = c.requires.placed } in
    let here = subst (λ (u : ProgressView). Asked u c.args.step c.args.rect) (sym c.self.view_is) asked in
    is_open i.plan i.input i.grid i.ready i.places.items c.args.step c.args.rect c.index.result.now c.self.invariant.0 c.self.invariant.2 here c.index.ensures c.in_default.not-Plane
