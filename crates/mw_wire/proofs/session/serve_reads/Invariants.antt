use Rattle.std.proofs.Common.{◌≡◌, ◌≤◌, ◌-◌, ℕ, List, false, vec_len}
use Rattle.std.specs.Io.KnownBytes.{Consumes}
use Rattle.mw_model.specs.declared.limits.TheConstants.{READ_LIMIT}
use Rattle.mw_model.specs.Lines.{Partial}
use Rattle.mw_session_intake.specs.Intake.{HasNoWholeLine}
use Rattle.mw_session_intake.specs.Reading.{front}
use Rattle.mw_wire.proofs.Ends.{Progress}
use Rattle.mw_wire.proofs.session.serve_reads.Given as goal

abbrev pub invariant-reads : goal.invariant-reads
invariant-reads g l = record {
  taken : List ℕ;
  read : Consumes (g.R.Read.remaining l.fn.source.inner) (g.R.Read.remaining l.source.inner) taken;
  progress : Progress g.D.Handler.Answer taken l.intake.bytes l.fn.kept l.kept (g.W.Write.contents l.fn.sink.inner) (g.W.Write.contents l.sink.inner);
  waits : front l.intake.bytes ≡ Partial;
  is_open : HasNoWholeLine l.intake;
  source_clear : l.source.failed ≡ false;
  sink_clear : l.sink.failed ≡ false;
  reads : l.source.reads ≤ READ_LIMIT;
  buffer : vec_len l.buffer ≡ 65536;
}

abbrev pub decreases-reads : goal.decreases-reads
decreases-reads g l = READ_LIMIT - l.source.reads
