use Rattle.std.proofs.Common.{sym, ◌∙◌}
use Rattle.mw_session.proofs.Covering.{keeps-run}
use Rattle.mw_session.proofs.within.run.Goals as goal

pub returns-clause-keeps : goal.returns-clause-keeps
returns-clause-keeps c =
    rw c.count.ensures (rw c.take_beside.ensures (keeps-run c.run-reply.result c.args.budget.now c.allows.new.self c.args.core.now c.run-reply.new.self c.args.name c.args.op _ _ c.run_bytes-counted.ensures.accepted c.run-reply.ensures.err c.run-reply.ensures.served c.run-reply.ensures.side c.saturating_add.ensures c.allows.ensures.counted (sym c.allows.ensures.said ∙ c.if-not-allows.false)))
