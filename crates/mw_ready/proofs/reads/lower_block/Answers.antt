use Rattle.std.proofs.Common.{ℕ, ◌/◌, ◌%◌, ◌*◌, ◌+◌, ◌&&◌, sym, subst, arith}
use Rattle.mw_grid.specs.Counts.{in_range}
use Rattle.mw_grid.specs.Grids.{columns_of}
use Rattle.mw_ready.specs.Counters.{Lowers, NoneIsZero}
use Rattle.mw_ready.proofs.Lowering.{row_counted, lowers_more, box_more}
use Rattle.mw_ready.proofs.reads.lower_block.Goals as goal

pub lower_row-requires-clause-some : goal.lower_row-requires-clause-some
lower_row-requires-clause-some c =
    let b = c.args.block in
    let n = columns_of c.args.grid in
    let row = c.loop-row.row in
    subst (λ (k : ℕ). NoneIsZero (in_range (row * k + b.left) (row * k + b.right)) c.loop-row.counts) (sym c.columns-columns.ensures.value)
    (row_counted n b.top b.bottom b.left b.right row c.args.counts.now c.loop-row.counts (omega arith) c.requires.across c.loop-row.auto.row c.loop-row-test.true c.requires.some c.loop-row.invariant)

pub loop-row-preserved : goal.loop-row-preserved
loop-row-preserved c =
    let b = c.args.block in
    let n = columns_of c.args.grid in
    let row = c.loop-row.row in
    lowers_more (λ t. in_range b.top row (t / n) && in_range b.left b.right (t % n)) (in_range (row * n + b.left) (row * n + b.right)) (λ t. in_range b.top (row + 1) (t / n) && in_range b.left b.right (t % n))
    c.args.counts.now c.loop-row.counts c.lower_row.new.counts (λ x. box_more n b.top row b.left b.right x (omega arith) c.requires.across c.loop-row.auto.row) c.loop-row.invariant
    (subst (λ (k : ℕ). Lowers (in_range (row * k + b.left) (row * k + b.right)) c.loop-row.counts c.lower_row.new.counts) c.columns-columns.ensures.value c.lower_row.ensures)
