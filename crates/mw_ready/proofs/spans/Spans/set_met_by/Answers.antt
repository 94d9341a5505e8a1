use Rattle.std.proofs.Common.{arith}
use Rattle.mw_ready.proofs.Spanning.{spanned-met}
use Rattle.mw_ready.proofs.spans.Spans.set_met_by.Goals as goal

pub returns : goal.returns
returns c =
    let a = c.args in
    record {
      each = λ tile lt.
          spanned-met a.grid a.reach (record { across = c.along.new.found; down = c.along-2.new.found }) c.columns-columns.result c.rows-rows.result c.side-side.result tile (record { wide = omega arith; high = omega arith; some = omega arith })
          c.columns-columns.ensures.value c.rows-rows.ensures.value c.side-side.ensures.value c.along.ensures.each c.along-2.ensures.each lt;
      low = λ row lt. c.along-2.ensures.low row (omega (arith, c.rows-rows.ensures.value));
    }
