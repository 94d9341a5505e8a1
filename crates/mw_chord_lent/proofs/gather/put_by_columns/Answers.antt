use Rattle.std.proofs.Common.{◌≡◌, ◌+◌, ◌*◌, ◌≤◌, arith}
use Rattle.mw_chord_lent.specs.Placed.{gathered_at}
use Rattle.mw_chord_lent.proofs.Puts.{in_rows_none, in_rows_on, in_rows_part}
use Rattle.mw_chord_lent.proofs.gather.put_by_columns.Goals as goal

pub by_block-init : goal.by_block-init
by_block-init g c = record {
  within = omega arith;
  put = in_rows_none c.args.rows.high c.args.rows.at c.args.rows.width c.args.rows.apart c.args.out.now;
  made = λ r i few lt. absurd (omega (arith, lt));
}

pub put_column-requires-clause-column : goal.put_column-requires-clause-column
put_column-requires-clause-column g c = omega (arith, c.min-column.ensures, c.requires.lanes, c.WIDTH.ensures)

pub by_block-preserved : goal.by_block-preserved
by_block-preserved g c =
    let f = g.E.Extremum.merge in
    let n = c.args.neutral in
    let lists = c.args.lists.now in
    let places = c.args.places.now in
    let b = c.args.rows in
    let column = c.min-column.result in
    let w = 2 * g.P.Laned.WIDTH in
    let mid = c.by_block.out in
    let new = c.put_column.new.out in
    let fits : column + w ≤ b.width = omega (arith, c.min-column.ensures, c.requires.lanes, c.WIDTH.ensures) in
    record {
      within = omega (arith, fits, c.WIDTH-in-by_block.ensures);
      put = in_rows_part b.high b.at b.width b.apart column w c.args.out.now mid new fits c.by_block.invariant.put c.put_column.ensures.put;
      made = λ r i few lt.
          in_rows_on (λ r i v. v ≡ gathered_at f lists n (r * b.wide + i) n places) n b.high b.at b.width b.apart c.by_block.done column w mid new (omega (arith, c.min-column.ensures)) fits c.requires.apart c.put_column.ensures.put
          (λ r i few lt. c.put_column.ensures.made r i few lt) (λ r i few lt. c.by_block.invariant.made r i few lt) r i few (omega (arith, lt, c.WIDTH-in-by_block.ensures));
    }

pub returns-clause-made : goal.returns-clause-made
returns-clause-made g c = λ r i few lt. c.by_block.invariant.made r i few (omega (arith, lt))
