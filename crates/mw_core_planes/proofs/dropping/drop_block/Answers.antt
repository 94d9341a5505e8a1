use Rattle.std.proofs.Common.{ℕ, ◌+◌, ◌*◌, ◌/◌, ◌%◌, ◌≤◌, Bool, not, ◌&&◌, subst, arith}
use Rattle.mw_grid.specs.Counts.{in_range}
use Rattle.mw_grid.specs.Grids.{Tiling, tile_count}
use Rattle.mw_core_planes.specs.StepPlanes.{is_read}
use Rattle.mw_core_planes.proofs.Rows.{block_more, row_fits}
use Rattle.mw_core_planes.proofs.Swept.{swept-then}
use Rattle.mw_core_planes.proofs.dropping.drop_block.Goals as goal

pub drop_row-requires-clause-fits : goal.drop_row-requires-clause-fits
drop_row-requires-clause-fits c =
    let a = c.args in
    subst (λ (g : Tiling). c.loop-row.row * c.columns-columns.result + a.block.right ≤ tile_count g) c.requires.board
    (row_fits a.grid c.loop-row.row c.columns-columns.result a.block.right c.columns-columns.ensures.value c.requires.block.right (omega (arith, c.requires.block.bottom, c.loop-row-test.true)))

pub loop-row-preserved : goal.loop-row-preserved
loop-row-preserved c =
    let a = c.args in
    let row = c.loop-row.row in
    let columns = c.columns-columns.result in
    let gone : ℕ → Bool = λ v. not (is_read a.ready.now.board a.step v) in
    swept-then (λ v. in_range a.block.top row (v / columns) && in_range a.block.left a.block.right (v % columns) && gone v) (λ v. in_range (row * columns + a.block.left) (row * columns + a.block.right) v && gone v)
    (λ v. in_range a.block.top (row + 1) (v / columns) && in_range a.block.left a.block.right (v % columns) && gone v) a.plane.now c.loop-row.plane c.drop_row.new.plane
    (λ v lt. block_more columns a.block.top row a.block.left a.block.right v (gone v) (omega (arith, c.columns-columns.ensures.some)) (omega (arith, c.requires.block.right, c.columns-columns.ensures.value)) c.loop-row.auto.row)
    c.loop-row.invariant c.drop_row.ensures
