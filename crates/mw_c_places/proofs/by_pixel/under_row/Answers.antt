use Rattle.std.proofs.Common.{◌-◌, arith}
use Rattle.mw_c_places.proofs.InBoxes.{more_in_row, row_begins}
use Rattle.mw_c_places.proofs.by_pixel.under_row.Goals as goal

pub each-init : goal.each-init
each-init g c = record {
  so_far = row_begins c.args.work.extremum (g.S.Levels.image c.args.f.now) c.args.work.offsets c.args.j c.columns-left.result c.args.x c.args.y c.args.start c.columns-left.ensures;
  within = omega (arith, c.columns-left.ensures);
}

pub each-preserved : goal.each-preserved
each-preserved g c = record {
  so_far = more_in_row c.args.work.extremum (g.S.Levels.image c.args.f.now) c.args.work.offsets c.args.j c.each.left (c.each.left - 1) c.args.x c.args.y c.args.start c.each.best c.extreme-best.result c.level_in_box-seen.result
      (omega arith) (omega (arith, c.each.invariant.within)) c.level_in_box-seen.ensures c.each.invariant.so_far c.extreme-best.ensures;
  within = omega (arith, c.each.invariant.within);
}
