use Rattle.std.proofs.Common.{◌+◌, ◌*◌, set, slice_get, arith, subst, sym}
use Rattle.mw_tile_pieces.specs.Blocks.{CopiesRun}
use Rattle.mw_tile_pieces.proofs.Laid.{sample_run}
use Rattle.mw_tile_pieces.proofs.Pasted.{pasted_all_rows, pasted_down}
use Rattle.mw_tile_pieces.proofs.levels.copy_column.Goals as goal

pub loop-y-preserved : goal.loop-y-preserved
loop-y-preserved g c =
    let b = c.args.block in
    let y = c.loop-y.y in
    let room = c.requires.fits.room y c.loop-y-test.true in
    let other = c.requires.fits.other y c.loop-y-test.true in
    let next = slice_get (set c.loop-y.out (b.start + y * b.wide) c.index-from-block.result) in
    let column = c.requires.column in
    let run = sample_run c.loop-y.out c.args.from.now (b.start + y * b.wide) (b.first + y * b.own) c.index-from-block.result (omega arith) (omega arith) c.index-from-block.is in
    pasted_down b y (slice_get c.args.out.now) (slice_get c.loop-y.out) next (slice_get c.args.from.now) c.requires.fits.across
    (subst (λ n. CopiesRun (slice_get c.loop-y.out) next (slice_get c.args.from.now) (b.start + y * b.wide) (b.first + y * b.own) n) (sym column) run) c.loop-y.invariant

pub returns : goal.returns
returns g c = pasted_all_rows c.args.block c.loop-y.y _ _ _ (omega arith) c.loop-y.invariant
