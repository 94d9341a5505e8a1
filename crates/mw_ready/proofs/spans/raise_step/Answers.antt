use Rattle.std.proofs.Common.{◌%◌, ◌*◌, arith}
use Rattle.mw_grid.specs.Grids.{tile_count}
use Rattle.mw_ready.specs.Spans.{tiles_spanned}
use Rattle.mw_ready.proofs.Spanning.{row_fits, row_next, rows_done}
use Rattle.mw_ready.proofs.spans.raise_step.Goals as goal

pub raise_row-requires-clause-fits : goal.raise_row-requires-clause-fits
raise_row-requires-clause-fits c = λ i lt.
    let a = c.args in
    rw c.from.ensures
    (row_fits a.grid a.spans.now a.step a.times c.loop-row.row c.len.result c.columns-columns.result i a.counts.now c.loop-row.counts (omega (arith, c.loop-row-test.true, c.rows-row-end.ensures.value)) c.len.ensures.value c.columns-columns.ensures.value lt c.requires.within c.requires.fits c.loop-row.invariant)

pub loop-row-preserved : goal.loop-row-preserved
loop-row-preserved c =
    let a = c.args in
    row_next a.grid a.spans.now a.step a.times c.loop-row.row c.len.result c.columns-columns.result a.counts.now c.loop-row.counts _ (omega (arith, c.loop-row-test.true, c.rows-row-end.ensures.value)) c.len.ensures.value c.columns-columns.ensures.value c.loop-row.invariant (rw c.from.ensures at c.raise_row.ensures)

pub returns : goal.returns
returns c =
    let a = c.args in
    rows_done a.grid (λ u. a.times * tiles_spanned a.grid a.spans.now (u % tile_count a.grid)) a.step c.loop-row.row a.counts.now c.loop-row.counts (omega (arith, c.loop-row-test.false, c.loop-row.auto.row-end, c.rows-row-end.ensures.value)) c.loop-row.invariant
