use Rattle.std.proofs.Common.{◌-◌, arith}
use Rattle.mw_geodesic_labels.proofs.RowsWritten.{row_added, row_begun, row_fits, rows_fit}
use Rattle.mw_geodesic_labels.proofs.regions.add_run.Goals as goal

pub put_row-requires : goal.put_row-requires
put_row-requires c =
    let can = c.requires in
    let room = can.room in
    let positive = can.can.positive in
    let size = rows_fit can.regions can.before c.args.out.now can.rows in
    omega arith

pub returns-then-k-count : goal.returns-then-k-count
returns-then-k-count c = λ can.
    let positive = can.can.positive in
    row_begun c.args.run c.args.number c.args.count (c.args.number - 1) c.args.out.now c.put_row.new.out c.region_of.result can (omega arith) (omega (arith, c.if-k-count.true)) c.region_of.ensures c.put_row.ensures

pub row_at-region-requires : goal.row_at-region-requires
row_at-region-requires c =
    let can = c.requires in
    let room = can.room in
    let positive = can.can.positive in
    let size = rows_fit can.regions can.before c.args.out.now can.rows in
    omega arith

pub with_run-requires-clause-fits : goal.with_run-requires-clause-fits
with_run-requires-clause-fits c =
    let can = c.requires in
    let positive = can.can.positive in
    row_fits c.args.run c.args.number c.args.count (c.args.number - 1) c.args.out.now c.row_at-region.result can (omega arith) (λ same. absurd (omega (arith, c.if-k-count.false))) c.row_at-region.ensures

pub put_row-requires-2 : goal.put_row-requires-2
put_row-requires-2 c =
    let can = c.requires in
    let room = can.room in
    let positive = can.can.positive in
    let size = rows_fit can.regions can.before c.args.out.now can.rows in
    omega arith

pub returns : goal.returns
returns c = λ can.
    let positive = can.can.positive in
    row_added c.args.run c.args.number c.args.count (c.args.number - 1) c.args.out.now c.put_row-2.new.out c.row_at-region.result c.with_run.result can (omega arith) (λ same. absurd (omega (arith, c.if-k-count.false))) c.row_at-region.ensures c.with_run.ensures
    c.put_row-2.ensures
