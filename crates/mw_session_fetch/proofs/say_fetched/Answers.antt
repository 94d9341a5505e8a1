use Rattle.mw_session_fetch.proofs.say_fetched.Goals as goal

pub returns-clause-said : goal.returns-clause-said
returns-clause-said g c =
    let said = c.note_fetched.ensures.said in
    (said.0, said.1, said.3)
