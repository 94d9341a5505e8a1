use Rattle.std.proofs.Common.{arith}
use Rattle.mw_pixel_words.proofs.Funnels.{funnel_below, funnel_above}
use Rattle.mw_pixel_words.proofs.shifting.funnel.Goals as goal

pub returns-clause-below : goal.returns-clause-below
returns-clause-below c = λ i within. funnel_below c.args.low c.args.high c.args.shift i (omega arith) within

pub returns-clause-above : goal.returns-clause-above
returns-clause-above c = λ i lt past. let fits = c.ranges.low in funnel_above c.args.low c.args.high c.args.shift i (omega arith) (omega arith) lt past
