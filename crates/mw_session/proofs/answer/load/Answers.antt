use Rattle.mw_session.proofs.Answering.{answered-load}
use Rattle.mw_session.proofs.Covering.{asks-keep, asks-then, keeps-then}
use Rattle.mw_session.proofs.answer.load.Goals as goal

pub returns-clause-answered : goal.returns-clause-answered
returns-clause-answered g c = (
  _,
  λ m s none. answered-load m c.args.name c.args.payload.items c.kept_image-image.result c.args.core.now c.load-reply.new.core c.load-reply.result s none (c.kept_image-image.ensures.read c.args.payload.items c.image_of-image.ensures.read) c.load-reply.ensures.served c.load-reply.ensures.memory c.load-reply.ensures.err c.load-reply.ensures.first,
  c.note_told.ensures.marks,
  c.note_told.ensures.wrote,
)

pub returns-clause-keeps : goal.returns-clause-keeps
returns-clause-keeps g c = keeps-then _ _ _ _ _ (asks-keep _ _ _ (asks-then _ _ _ _ c.image_of-image.ensures.asks c.kept_image-image.ensures.asks)) (c.load-reply.ensures.keeps c.kept_image-image.ensures.left)
