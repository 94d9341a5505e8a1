use Rattle.std.proofs.Common.{◌∙◌, arith}
use Rattle.mw_c_geodesic.proofs.RegionRows.{row_more}
use Rattle.mw_c_geodesic.proofs.region_rows.put_rows.Goals as goal

pub loop-k-preserved : goal.loop-k-preserved
loop-k-preserved c = c.put_row.ensures ∙ row_more c.args.regions.now c.loop-k.k _ c.args.out.now c.loop-k.out (omega arith) c.loop-k.invariant
