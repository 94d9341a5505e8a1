use Rattle.std.proofs.Common.{◌≡◌, None, false, refl, subst}
use Rattle.std.specs.Io.Buffered.{writer_contents}
use Rattle.mw_batch.specs.Batches.{SessionEnds}
use Rattle.mw_server_serve.specs.Services.{ServedAlone, untouched}
use Rattle.mw_server_serve.proofs.connection.converse.Goals as goal

pub returns-clause-served : goal.returns-clause-served
returns-clause-served g c =
    let from = c.args.source.now in
    let to = c.new-sink.result in
    let source = c.serve_one-status.new.source in
    let sink = c.serve_one-status.new.sink in
    let left = g.R.Read.remaining from.inner in
    let old : SessionEnds = record { left = left; reads = from.reads; read_failed = from.failed; written = writer_contents g.W.Write.contents to.inner.inner; write_failed = to.failed; told = None; tell_failed = false } in
    let new : SessionEnds = record { left = g.R.Read.remaining source.inner; reads = source.reads; read_failed = source.failed; written = writer_contents g.W.Write.contents sink.inner.inner; write_failed = sink.failed; told = None; tell_failed = false } in
    let fresh : old ≡ untouched left (writer_contents g.W.Write.contents c.args.writer) = rw (c.requires.source_fresh.none, c.requires.source_fresh.clear, c.new-sink.ensures.clear, c.new-sink.ensures.inner) refl in
    record {
      ends = new;
      status = c.serve_one-status.result;
      alone = subst (λ o. ServedAlone o new c.serve_one-status.result) fresh c.serve_one-status.ensures;
      read = refl;
      taken = c.hand_over.ensures;
    }
