use Rattle.mw_pool_session.proofs.Texts.{served-fetched}
use Rattle.mw_pool_session.proofs.counter.BoardHandler.fetch.Goals as goal

pub returns-in-Ok-clause-answered : goal.returns-in-Ok-clause-answered
returns-in-Ok-clause-answered g c =
    let said = c.say_fetched.ensures.said in
    (said.0, served-fetched c.args.name c.args.pass.now c.fetch.new.pass c.in-Ok.fetched.reply c.in-Ok.fetched.value said.0 c.in-Ok.ensures.receipt c.in-Ok.ensures.shown said.1, said.2)
