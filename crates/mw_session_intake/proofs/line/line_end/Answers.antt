use Rattle.std.proofs.Common.{◌≡◌, arith, rules}
use Rattle.std.specs.List.{position_or_len}
use Rattle.mw_session_intake.specs.Reading.{is_line_end}
use Rattle.mw_model.proofs.mw_facts.Positions.{position_more, position_here, position_length}
use Rattle.mw_session_intake.proofs.line.line_end.Goals as goal

pub returns-then-bytes-i-eq10 : goal.returns-then-bytes-i-eq10
returns-then-bytes-i-eq10 c =
    let here : position_or_len is_line_end c.args.bytes.now ≡ c.loop-i.i = position_here is_line_end c.args.bytes.now c.loop-i.i c.loop-i.invariant (omega arith) (search rules) in omega (arith, here)

pub loop-i-preserved : goal.loop-i-preserved
loop-i-preserved c = position_more is_line_end c.args.bytes.now c.loop-i.i c.loop-i.invariant (omega arith) (search rules)

pub returns : goal.returns
returns c = let short = position_length is_line_end c.args.bytes.now in omega (arith, short, c.loop-i.invariant)
