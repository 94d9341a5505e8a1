use Rattle.std.proofs.Common.{rules}
use Rattle.mw_server_serve.proofs.Announced.{port_announced}
use Rattle.mw_server_serve.proofs.service.serve_all.Goals as goal

pub returns : goal.returns
returns g c = port_announced c.args.service.port c.in_ok-place.place.port (g.O.Write.contents c.args.output.now.inner) (g.O.Write.contents c.serve_at.new.output.inner) c.serve_at.result (search rules) c.serve_at.ensures
