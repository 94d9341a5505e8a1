use Rattle.std.proofs.Common.{◌∙◌, arith}
use Rattle.mw_ready.proofs.Spanning.{spanned-turned}
use Rattle.mw_ready.proofs.spans.Spans.set_meeting.Goals as goal

pub returns : goal.returns
returns c = record {
  each = λ tile lt. c.set_met_by.ensures.each tile lt ∙ spanned-turned c.args.grid c.args.reach tile (record { wide = omega arith; high = omega arith; some = omega arith }) lt;
  low = c.set_met_by.ensures.low;
}
