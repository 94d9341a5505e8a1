use Rattle.mw_server_listen.proofs.SessionPasses.{served_is_of_session}
use Rattle.mw_server_listen.proofs.session.RequestsSession.run.Goals as goal

pub returns : goal.returns
returns g c = served_is_of_session c.serve_whole-pass.result _ _ _ _ c.serve_whole-pass.ensures
