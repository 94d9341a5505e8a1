use Rattle.mw_session.proofs.Chains.{counted-ran, keeps-ran}
use Rattle.mw_session.proofs.script.run_counted.Goals as goal

pub returns-clause-ran : goal.returns-clause-ran
returns-clause-ran g c = λ m s.
    counted-ran m c.args.tally.now c.run_session.new.kept (g.R.Read.remaining c.args.source.now.inner) (g.R.Read.remaining c.run_session.new.source.inner) (g.W.Write.contents c.args.sink.now.inner) (g.W.Write.contents c.run_session.new.sink.inner) c.run_session.result c.run_session.ensures.ran s c.requires.idle c.requires.first c.requires.clear

pub returns-clause-keeps : goal.returns-clause-keeps
returns-clause-keeps g c =
    keeps-ran c.args.tally.now c.run_session.new.kept (g.R.Read.remaining c.args.source.now.inner) (g.R.Read.remaining c.run_session.new.source.inner) (g.W.Write.contents c.args.sink.now.inner) (g.W.Write.contents c.run_session.new.sink.inner) c.run_session.result c.run_session.ensures.ran
