use Rattle.std.proofs.Common.{refl}
use Rattle.mw_model.specs.declared.requests.Ask.TheVariants as ask
use Rattle.mw_model.specs.Lines.{AskAlone}
use Rattle.mw_session.proofs.Answering.{ready-by-work, answered-fetch, answered-memory}
use Rattle.mw_session.proofs.Covering.{keeps-worked}
use Rattle.mw_session.proofs.answer.fetch.Goals as goal

pub returns-in-Ok-clause-answered : goal.returns-in-Ok-clause-answered
returns-in-Ok-clause-answered g c =
    let said = c.note_fetched.ensures.said in (
      said.0,
      λ m s none.
          let h = ready-by-work m (AskAlone (ask.Fetch c.args.name)) c.args.core.now c.run_all_work.new.core (c.run_all_work.ensures m s none) refl in
          answered-fetch m c.args.name c.args.core.now c.run_all_work.new.core c.fetch.new.core h c.in-Ok.fetched.reply c.in-Ok.fetched.value said.0 c.in-Ok.ensures.served (c.in-Ok.ensures.value h.state h.stands) said.1,
      said.2,
      said.3,
    )

pub returns-in-Err-clause-answered : goal.returns-in-Err-clause-answered
returns-in-Err-clause-answered g c = (
  _,
  λ m s none.
      let h = ready-by-work m (AskAlone (ask.Fetch c.args.name)) c.args.core.now c.run_all_work.new.core (c.run_all_work.ensures m s none) refl in
      answered-memory m (AskAlone (ask.Fetch c.args.name)) c.args.core.now c.run_all_work.new.core c.fetch.new.core h tt tt c.in-Err.ensures.err,
  c.note_told.ensures.marks,
  c.note_told.ensures.wrote,
)

pub returns-in-Ok-clause-keeps : goal.returns-in-Ok-clause-keeps
returns-in-Ok-clause-keeps g c = keeps-worked _ _ _ _ _ c.run_all_work.ensures c.fetch.ensures.keeps

pub returns-in-Err-clause-keeps : goal.returns-in-Err-clause-keeps
returns-in-Err-clause-keeps g c = keeps-worked _ _ _ _ _ c.run_all_work.ensures c.fetch.ensures.keeps
