use Rattle.mw_session.proofs.Answering.{answered-release}
use Rattle.mw_session.proofs.answer.release.Goals as goal

pub returns-clause-answered : goal.returns-clause-answered
returns-clause-answered g c = (
  _,
  λ m s none. answered-release m c.args.name c.args.core.now c.release-reply.new.core c.release-reply.result s none c.release-reply.ensures.served c.release-reply.ensures.err c.release-reply.ensures.full,
  c.note_told.ensures.marks,
  c.note_told.ensures.wrote,
)
