use Rattle.std.proofs.Common.{◌+◌, ◌*◌, true, false, ◌∙◌, arith}
use Rattle.mw_element.proofs.Counts.{count_set, count_unset}
use Rattle.mw_element.proofs.Rows.{pixel_test}
use Rattle.mw_element.proofs.bitmaps.count_row.Goals as goal
use Rattle.mw_element.proofs.bitmaps.count_row.Goals.{then-is_set, else-is_set}

pub columns-preserved : goal.columns-preserved
columns-preserved c =
    let f = c.args.bitmap.now in
    let place = c.args.y * f.width + c.columns.x in
    elim c.if-is_set.branch [
      | then-is_set w ↦
          let is = pixel_test f.cells place c.at.result true c.at.ensures w.if-is_set.ensures.set in
          record {
            made = w.count-is ∙ count_set f c.args.y c.columns.x c.columns.count is c.columns.invariant.made;
            few = omega (arith, w.count-is, c.columns.invariant.few);
          }
      | else-is_set w ↦
          let not = pixel_test f.cells place c.at.result false c.at.ensures w.if-is_set.ensures.set in
          record {
            made = w.count-is ∙ count_unset f c.args.y c.columns.x c.columns.count not c.columns.invariant.made;
            few = omega (arith, w.count-is, c.columns.invariant.few);
          }
    ]
