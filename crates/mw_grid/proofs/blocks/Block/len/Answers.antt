use Rattle.std.proofs.Common.{arith}
use Rattle.mw_model.proofs.mw_facts.Counts.{count_by-most}
use Rattle.mw_grid.specs.Grids.{tile_count}
use Rattle.mw_grid.specs.Blocks.{in_block}
use Rattle.mw_grid.proofs.Meeting.{count-block}
use Rattle.mw_grid.proofs.blocks.Block.len.Goals as goal

pub returns-clause-value : goal.returns-clause-value
returns-clause-value c = count-block c.args.grid c.args.self c.requires

pub returns-clause-most : goal.returns-clause-most
returns-clause-most c = omega (arith, count-block c.args.grid c.args.self c.requires, count_by-most (in_block c.args.grid c.args.self) (tile_count c.args.grid))
