use Rattle.mw_grid.specs.Grids.{columns_of, rows_of}
use Rattle.mw_ready.proofs.Raising.{source_given, source_counted, no_source, block_fits}
use Rattle.mw_ready.proofs.reads.lower_source.Goals as goal

pub lower_block-requires-clause-fits : goal.lower_block-requires-clause-fits
lower_block-requires-clause-fits c =
    let a = c.args in
    block_fits c.at_step.result.bottom c.in-Some.step a.steps (rows_of a.grid) (columns_of a.grid) _ c.at_step.ensures.down.1 c.if-step-steps.true c.requires.size

pub lower_block-requires-clause-some : goal.lower_block-requires-clause-some
lower_block-requires-clause-some c =
    let a = c.args in
    source_counted a.grid a.block c.at_step.result a.source c.in-Some.step a.counts.now c.in-Some.is c.at_step.ensures.tasks c.requires.some

pub returns-then-step-steps : goal.returns-then-step-steps
returns-then-step-steps c =
    let a = c.args in
    source_given a.grid a.block c.at_step.result a.source c.in-Some.step a.counts.now c.lower_block.new.counts c.in-Some.is c.at_step.ensures.tasks c.lower_block.ensures

pub returns-else-step-steps : goal.returns-else-step-steps
returns-else-step-steps c =
    let a = c.args in
    no_source a.grid a.block a.source a.steps c.in-Some.step a.counts.now c.in-Some.is c.if-step-steps.false c.requires.size
