use Rattle.std.proofs.Common.{refl}
use Rattle.mw_model.specs.declared.requests.Ask.TheVariants as ask
use Rattle.mw_model.specs.Lines.{AskAlone}
use Rattle.mw_session.proofs.Answering.{answered-status}
use Rattle.mw_session.proofs.Covering.{keeps-worked}
use Rattle.mw_session.proofs.answer.status.Goals as goal

pub returns-clause-status : goal.returns-clause-status
returns-clause-status g c = (
  _,
  λ m s none. answered-status m (AskAlone (ask.Status c.args.name)) c.args.name c.args.core.now c.run_all_work.new.core c.status-reply.new.core c.status-reply.result (refl, refl) refl (λ e is. tt) (λ full. full) refl (c.run_all_work.ensures m s none) c.status-reply.ensures.served c.status-reply.ensures.err c.status-reply.ensures.full,
  c.note_told.ensures.marks,
  c.note_told.ensures.wrote,
)

pub returns-clause-wait : goal.returns-clause-wait
returns-clause-wait g c = (
  _,
  λ m s none. answered-status m (AskAlone (ask.Wait c.args.name)) c.args.name c.args.core.now c.run_all_work.new.core c.status-reply.new.core c.status-reply.result (refl, refl) refl (λ e is. tt) (λ full. full) refl (c.run_all_work.ensures m s none) c.status-reply.ensures.served c.status-reply.ensures.err c.status-reply.ensures.full,
  c.note_told.ensures.marks,
  c.note_told.ensures.wrote,
)

pub returns-clause-keeps : goal.returns-clause-keeps
returns-clause-keeps g c = keeps-worked _ _ _ _ _ c.run_all_work.ensures c.status-reply.ensures.keeps
