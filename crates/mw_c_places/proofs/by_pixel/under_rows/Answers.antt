use Rattle.std.proofs.Common.{◌-◌, arith}
use Rattle.mw_c_places.proofs.InBoxes.{more_rows, rows_begin}
use Rattle.mw_c_places.proofs.by_pixel.under_rows.Goals as goal

pub rows-init : goal.rows-init
rows-init g c = record {
  so_far = rows_begin c.args.work.extremum (g.S.Levels.image c.args.f.now) c.args.work.offsets c.rows-left.result c.args.x c.args.y c.args.start c.rows-left.ensures;
  within = omega (arith, c.rows-left.ensures);
}

pub rows-preserved : goal.rows-preserved
rows-preserved g c = record {
  so_far = more_rows c.args.work.extremum (g.S.Levels.image c.args.f.now) c.args.work.offsets c.rows.left (c.rows.left - 1) c.args.x c.args.y c.args.start c.rows.best c.under_row-best.result
      (omega arith) (omega (arith, c.rows.invariant.within)) c.rows.invariant.so_far c.under_row-best.ensures;
  within = omega (arith, c.rows.invariant.within);
}
