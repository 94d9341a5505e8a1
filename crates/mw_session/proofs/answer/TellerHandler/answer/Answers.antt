use Rattle.mw_session.proofs.answer.TellerHandler.answer.Goals as goal

pub returns-clause-answered : goal.returns-clause-answered
returns-clause-answered g c =
    let a = c.answer_one-written.ensures.answered in
    (a.0, record { answer = a.1; marks = a.2; counted = c.saturating_add-tally.ensures; keeps = c.answer_one-written.ensures.keeps }, a.3)
