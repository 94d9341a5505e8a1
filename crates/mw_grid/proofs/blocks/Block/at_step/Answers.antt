use Rattle.mw_grid.proofs.Meeting.{block_at_step}
use Rattle.mw_grid.proofs.blocks.Block.at_step.Goals as goal

pub returns-clause-tasks : goal.returns-clause-tasks
returns-clause-tasks c = λ t. block_at_step c.args.grid c.args.self c.args.step c.rows.result t c.requires.within.bottom c.rows.ensures.value
