use Rattle.mw_session.proofs.Chains.{session-ran}
use Rattle.mw_session.proofs.script.run_script.Goals as goal

pub returns-clause-ran : goal.returns-clause-ran
returns-clause-ran g c = λ m s.
    session-ran m c.args.core.now c.run_session.new.kept (g.R.Read.remaining c.args.source.now.inner) (g.R.Read.remaining c.run_session.new.source.inner) (g.W.Write.contents c.args.sink.now.inner) (g.W.Write.contents c.run_session.new.sink.inner) c.run_session.result c.run_session.ensures.ran s c.requires.idle
