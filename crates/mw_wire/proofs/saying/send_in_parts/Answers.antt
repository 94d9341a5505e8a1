use Rattle.std.proofs.Common.{◌++◌}
use Rattle.std.proofs.lemmas.Result.{err_from_is_err_and}
use Rattle.mw_wire.proofs.Writing.{front_of_both, wrote_then}
use Rattle.mw_wire.proofs.saying.send_in_parts.Goals as goal

pub returns-in_err-send-clause-wrote : goal.returns-in_err-send-clause-wrote
returns-in_err-send-clause-wrote g c =
    let p = err_from_is_err_and c.from_residual.result c.from_residual.ensures.1 in
    let w = rw c.as_bytes.ensures at c.in_err-send.ensures.wrote in
    rw p.1 (front_of_both (g.W.Write.contents c.args.sink.now.inner) (g.W.Write.contents c.send.new.sink.inner) c.args.line.now (c.args.front.now ++ c.args.rest.now) w)

pub returns-clause-wrote : goal.returns-clause-wrote
returns-clause-wrote g c =
    wrote_then (g.W.Write.contents c.args.sink.now.inner) (g.W.Write.contents c.send.new.sink.inner) (g.W.Write.contents c.send_both.new.sink.inner) c.args.line.now (c.args.front.now ++ c.args.rest.now) c.send_both.result
    (rw c.as_bytes.ensures at c.in_ok-send.ensures.wrote) c.send_both.ensures.wrote
