use Rattle.std.proofs.Common.{rules, arith}
use Rattle.mw_model.specs.Names.{is_zero}
use Rattle.mw_facts.proofs.Positions.{position_more, position_here, position_length}
use Rattle.mw_model.proofs.names.zeros_begin.Goals as goal

pub returns-then-bytes-i-eq0 : goal.returns-then-bytes-i-eq0
returns-then-bytes-i-eq0 c =
    let here = position_here is_zero c.args.bytes.now c.loop-i.i c.loop-i.invariant (omega arith) (search rules) in omega (arith, here)

pub loop-i-preserved : goal.loop-i-preserved
loop-i-preserved c = position_more is_zero c.args.bytes.now c.loop-i.i c.loop-i.invariant (omega arith) (search rules)

pub returns : goal.returns
returns c = let short = position_length is_zero c.args.bytes.now in omega (arith, short, c.loop-i.invariant)
