use Rattle.std.proofs.Common.{slice_get, arith}
use Rattle.mw_tile_pieces.proofs.Pasted.{pasted_all_columns, pasted_right}
use Rattle.mw_tile_pieces.proofs.levels.copy_columns.Goals as goal

pub overflow_add-column : goal.overflow_add-column
overflow_add-column g c = let room = c.requires.fits.room 0 c.requires.some in omega arith

pub overflow_add-column-in-loop-x : goal.overflow_add-column-in-loop-x
overflow_add-column-in-loop-x g c = let other = c.requires.fits.other 0 c.requires.some in omega arith

pub loop-x-preserved : goal.loop-x-preserved
loop-x-preserved g c =
    let across = c.requires.fits.across in
    pasted_right c.args.block c.loop-x.x 1 (slice_get c.args.out.now) (slice_get c.loop-x.out) (slice_get c.copy_column.new.out) (slice_get c.args.from.now) (omega arith) c.copy_column.ensures c.loop-x.invariant

pub returns : goal.returns
returns g c = pasted_all_columns c.args.block c.loop-x.x _ _ _ (omega arith) c.loop-x.invariant
