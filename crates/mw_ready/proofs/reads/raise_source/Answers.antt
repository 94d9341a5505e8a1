use Rattle.std.proofs.Common.{◌%◌}
use Rattle.mw_grid.specs.Grids.{tile_count}
use Rattle.mw_ready.specs.Spans.{tiles_spanned}
use Rattle.mw_ready.proofs.Raising.{no_raise, raises_once, step_fits}
use Rattle.mw_ready.proofs.reads.raise_source.Goals as goal

pub raise_step-requires-clause-within : goal.raise_step-requires-clause-within
raise_step-requires-clause-within c = step_fits c.in-Some.step c.args.steps (tile_count c.args.grid) _ c.if-step-steps.true c.requires.size

pub returns-then-step-steps : goal.returns-then-step-steps
returns-then-step-steps c =
    let a = c.args in
    raises_once a.grid (λ u. tiles_spanned a.grid a.spans.now (u % tile_count a.grid)) a.source c.in-Some.step a.counts.now c.raise_step.new.counts c.in-Some.is c.raise_step.ensures

pub returns-else-step-steps : goal.returns-else-step-steps
returns-else-step-steps c =
    let a = c.args in
    no_raise a.grid (λ u. tiles_spanned a.grid a.spans.now (u % tile_count a.grid)) a.source a.steps c.in-Some.step a.counts.now c.in-Some.is c.if-step-steps.false c.requires.size
