use Rattle.std.proofs.Common.{rules, arith}
use Rattle.mw_session_words.specs.Words.{is_blank}
use Rattle.mw_model.proofs.mw_facts.Positions.{position_more, position_here, position_length}
use Rattle.mw_session_words.proofs.words.blank_or_end.Goals as goal

pub returns-then-line-i-eq32-clause-place : goal.returns-then-line-i-eq32-clause-place
returns-then-line-i-eq32-clause-place c =
    let here = position_here is_blank c.args.line.now c.loop-i.i c.loop-i.invariant (omega arith) (search rules) in omega (arith, here)

pub loop-i-preserved : goal.loop-i-preserved
loop-i-preserved c = position_more is_blank c.args.line.now c.loop-i.i c.loop-i.invariant (omega arith) (search rules)

pub returns-clause-place : goal.returns-clause-place
returns-clause-place c = let short = position_length is_blank c.args.line.now in omega (arith, short, c.loop-i.invariant)
