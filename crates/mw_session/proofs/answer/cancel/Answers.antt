use Rattle.mw_session.proofs.Answering.{answered-cancel}
use Rattle.mw_session.proofs.answer.cancel.Goals as goal

pub returns-clause-answered : goal.returns-clause-answered
returns-clause-answered g c = (
  _,
  λ m s none. answered-cancel m c.args.name c.args.core.now c.cancel-reply.new.core c.cancel-reply.result s none (c.cancel-reply.ensures.succeeds m s) c.cancel-reply.ensures.served c.cancel-reply.ensures.err c.cancel-reply.ensures.full,
  c.note_told.ensures.marks,
  c.note_told.ensures.wrote,
)
