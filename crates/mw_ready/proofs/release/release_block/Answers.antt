use Rattle.std.proofs.Common.{ℕ, ◌∙◌, ◌/◌, ◌%◌, ◌*◌, ◌+◌, ◌&&◌, sym, subst, arith}
use Rattle.mw_grid.specs.Counts.{in_range}
use Rattle.mw_grid.specs.Grids.{columns_of}
use Rattle.mw_ready.specs.Counters.{AreWaiting, Lowers}
use Rattle.mw_ready.proofs.Lowering.{row_waits, lowers_more, box_more}
use Rattle.mw_ready.proofs.release.release_block.Goals as goal

pub release_row-requires-clause-waiting : goal.release_row-requires-clause-waiting
release_row-requires-clause-waiting c =
    let b = c.args.block in
    let n = columns_of c.args.grid in
    let row = c.loop-row.row in
    subst (λ (k : ℕ). AreWaiting (in_range (row * k + b.left) (row * k + b.right)) c.loop-row.queue) (sym c.columns-columns.ensures.value)
    (row_waits n b.top b.bottom b.left b.right row c.args.queue.now c.loop-row.queue (omega arith) c.requires.across c.loop-row.auto.row c.loop-row-test.true c.loop-row.invariant.same.started c.requires.waiting c.loop-row.invariant.lowers)

pub loop-row-preserved : goal.loop-row-preserved
loop-row-preserved c =
    let b = c.args.block in
    let n = columns_of c.args.grid in
    let row = c.loop-row.row in
    record {
      same = record { started = c.release_row.ensures.same.started ∙ c.loop-row.invariant.same.started; tiles = c.release_row.ensures.same.tiles ∙ c.loop-row.invariant.same.tiles };
      lowers = lowers_more (λ t. in_range b.top row (t / n) && in_range b.left b.right (t % n)) (in_range (row * n + b.left) (row * n + b.right)) (λ t. in_range b.top (row + 1) (t / n) && in_range b.left b.right (t % n))
          c.args.queue.now.waiting c.loop-row.queue.waiting c.release_row.new.queue.waiting (λ x. box_more n b.top row b.left b.right x (omega arith) c.requires.across c.loop-row.auto.row) c.loop-row.invariant.lowers
          (subst (λ (k : ℕ). Lowers (in_range (row * k + b.left) (row * k + b.right)) c.loop-row.queue.waiting c.release_row.new.queue.waiting) c.columns-columns.ensures.value c.release_row.ensures.lowers);
    }
