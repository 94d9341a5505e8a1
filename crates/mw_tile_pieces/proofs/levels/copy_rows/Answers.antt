use Rattle.std.proofs.Common.{slice_get, arith}
use Rattle.mw_tile_pieces.proofs.Pasted.{pasted_all_rows, pasted_down}
use Rattle.mw_tile_pieces.proofs.levels.copy_rows.Goals as goal

pub loop-y-preserved : goal.loop-y-preserved
loop-y-preserved g c =
    pasted_down c.args.block c.loop-y.y (slice_get c.args.out.now) (slice_get c.loop-y.out) (slice_get c.copy_run.new.out) (slice_get c.args.from.now) c.requires.across c.copy_run.ensures c.loop-y.invariant

pub returns : goal.returns
returns g c = pasted_all_rows c.args.block c.loop-y.y _ _ _ (omega arith) c.loop-y.invariant
