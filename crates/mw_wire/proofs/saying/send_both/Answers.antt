use Rattle.std.proofs.lemmas.Result.{err_from_is_err_and}
use Rattle.mw_wire.proofs.Writing.{front_of_both, wrote_then}
use Rattle.mw_wire.proofs.saying.send_both.Goals as goal

pub returns-in_err-send-clause-wrote : goal.returns-in_err-send-clause-wrote
returns-in_err-send-clause-wrote g c =
    let p = err_from_is_err_and c.from_residual.result c.from_residual.ensures.1 in
    let w = c.in_err-send.ensures.wrote in
    rw p.1 (front_of_both (g.W.Write.contents c.args.sink.now.inner) (g.W.Write.contents c.send.new.sink.inner) c.args.first.now c.args.second.now w)

pub returns-clause-wrote : goal.returns-clause-wrote
returns-clause-wrote g c =
    wrote_then (g.W.Write.contents c.args.sink.now.inner) (g.W.Write.contents c.send.new.sink.inner) (g.W.Write.contents c.send-2.new.sink.inner) c.args.first.now c.args.second.now c.send-2.result
    c.in_ok-send.ensures.wrote c.send-2.ensures.wrote
