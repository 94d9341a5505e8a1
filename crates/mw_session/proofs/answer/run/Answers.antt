use Rattle.mw_session.proofs.Answering.{answered-run}
use Rattle.mw_session.proofs.answer.run.Goals as goal

pub returns-clause-answered : goal.returns-clause-answered
returns-clause-answered g c = (
  _,
  λ m s none. answered-run m c.args.name c.args.op c.args.core.now c.run-reply.new.core c.run-reply.result s none c.run-reply.ensures.served c.run-reply.ensures.fresh c.run-reply.ensures.err,
  c.note_told.ensures.marks,
  c.note_told.ensures.wrote,
)
