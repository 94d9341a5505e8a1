use Rattle.mw_session.proofs.answer.ScriptHandlerHandler.answer.Goals as goal

pub returns-clause-answered : goal.returns-clause-answered
returns-clause-answered g c =
    let a = c.answer_one.ensures.answered in
    (a.0, a.1, a.3)
