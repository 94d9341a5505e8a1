use Rattle.mw_session.proofs.answer.answer_one.Goals as goal

pub returns-in-Wait-clause-answered : goal.returns-in-Wait-clause-answered
returns-in-Wait-clause-answered g c = rw c.in-Wait.is c.status-in-Wait.ensures.wait
