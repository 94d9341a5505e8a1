use Rattle.std.proofs.Common.{rules, ◌≡◌, refl}
use Rattle.mw_server_serve.specs.Services.{Conversed}
use Rattle.mw_server_serve.proofs.Parting.{drops_nothing}
use Rattle.mw_server_serve.proofs.connection.serve_connection.Goals as goal
use Rattle.mw_server_serve.proofs.connection.serve_connection.Goals.{then-has_taken, else-has_taken}

pub returns-clause-served : goal.returns-clause-served
returns-clause-served g c =
    let mid = g.R.Read.remaining c.converse-writer.new.source.inner in
    let served : Conversed (g.R.Read.remaining c.args.source.now.inner) mid (g.W.Write.contents c.args.writer) (g.W.Write.contents c.converse-writer.result.0) c.converse-writer.result.1 = search rules in
    elim c.if-has_taken.branch [
      | then-has_taken w ↦ rw w.source-is (mid, served, w.part.ensures.dropped, λ no. search rules)
      | else-has_taken w ↦ rw w.source-is (mid, served, drops_nothing mid, λ no. refl)
    ]
