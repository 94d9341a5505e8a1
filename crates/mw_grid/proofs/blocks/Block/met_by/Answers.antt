use Rattle.std.proofs.Common.{◌%◌, ◌<◌, arith}
use Rattle.mw_grid.proofs.Meeting.{block_given, row_within}
use Rattle.mw_grid.proofs.blocks.Block.met_by.Goals as goal

pub returns-clause-within : goal.returns-clause-within
returns-clause-within c =
    let columns = c.columns-columns.result in
    let columns-some : 0 < columns = omega (arith, c.columns-columns.ensures.some) in
    let column : c.args.tile % columns < columns = omega arith in
    let lt = row_within c.args.grid c.args.tile c.columns-columns.result c.rows-rows.result c.columns-columns.ensures.value c.rows-rows.ensures.value c.requires in
    record {
      across = omega (arith, c.first_near.ensures.low, c.end_near.ensures.high column);
      right = omega arith;
      down = omega (arith, c.first_near-2.ensures.low, c.end_near-2.ensures.high lt);
      bottom = omega arith;
    }

pub returns-clause-meets : goal.returns-clause-meets
returns-clause-meets c =
    block_given c.args.grid c.args.reach c.args.tile c.columns-columns.result c.rows-rows.result c.side-side.result c.first_near.result c.end_near.result c.first_near-2.result c.end_near-2.result
    (record { wide = omega arith; high = omega arith; some = omega arith }) c.requires c.columns-columns.ensures.value c.rows-rows.ensures.value c.side-side.ensures.value
    c.first_near.ensures.value c.end_near.ensures.value c.first_near-2.ensures.value c.end_near-2.ensures.value
