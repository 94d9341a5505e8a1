use Rattle.std.proofs.Common.{◌++◌, List, ℕ, append_assoc, subst}
use Rattle.mw_netpbm.specs.Rows.{rows_bytes}
use Rattle.mw_wire.specs.Writes.{Wrote}
use Rattle.mw_wire.proofs.Writing.{wrote_then}
use Rattle.mw_session_fetch.proofs.rasters.send_image.Goals as goal

pub returns-clause-wrote : goal.returns-clause-wrote
returns-clause-wrote g c = λ f cut.
    let old = g.W.Write.contents c.args.sink.now.inner in
    let now = g.W.Write.contents c.send_both.new.sink.inner in
    let new = g.W.Write.contents c.send_rows.new.sink.inner in
    let rows = rows_bytes g.P.RowBytes.bytes f.width f.height f.cells in
    subst (λ (l : List ℕ). Wrote old new l c.send_rows.result) (append_assoc c.args.line.now c.args.head.now rows)
    (wrote_then old now new (c.args.line.now ++ c.args.head.now) rows c.send_rows.result (rw c.as_bytes.ensures at c.in_ok-send_both.ensures.wrote) (c.send_rows.ensures.wrote f cut))
