use Rattle.std.specs.Int.{w16}
use Rattle.mw_line_lent.proofs.Vectors.{higher_lane, higher_long}
use Rattle.mw_line_lent.proofs.extrema.MaxLanedExtremumU16.merged.Goals as goal

pub invariant_of-result : goal.invariant_of-result
invariant_of-result c = record { whole = higher_long w16 c.args.a.lanes c.args.b.lanes 16 c.args.a.whole c.args.b.whole }

pub returns : goal.returns
returns c = λ i lt. higher_lane w16 c.args.a.lanes c.args.b.lanes i 16 c.args.a.whole c.args.b.whole
