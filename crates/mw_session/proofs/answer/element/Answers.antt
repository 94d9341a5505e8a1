use Rattle.mw_session.proofs.Answering.{answered-element}
use Rattle.mw_session.proofs.Covering.{asks-keep, asks-then, keeps-then}
use Rattle.mw_session.proofs.answer.element.Goals as goal

pub returns-clause-answered : goal.returns-clause-answered
returns-clause-answered g c = (
  _,
  λ m s none. answered-element m c.args.at.0 c.args.at.1 c.args.at.2 c.args.payload.now c.kept_element-element.result c.args.core.now c.element-reply.new.core c.element-reply.result s none (c.kept_element-element.ensures.read c.args.payload.now c.args.at.1 c.args.at.2 c.element_of-element.ensures.read) c.element-reply.ensures.served c.element-reply.ensures.memory c.element-reply.ensures.err c.element-reply.ensures.first,
  c.note_told.ensures.marks,
  c.note_told.ensures.wrote,
)

pub returns-clause-keeps : goal.returns-clause-keeps
returns-clause-keeps g c = keeps-then _ _ _ _ _ (asks-keep _ _ _ (asks-then _ _ _ _ c.element_of-element.ensures.asks c.kept_element-element.ensures.asks)) (c.element-reply.ensures.keeps c.kept_element-element.ensures.left)
