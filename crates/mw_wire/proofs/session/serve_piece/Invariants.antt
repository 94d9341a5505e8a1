use Rattle.std.proofs.Common.{◌≡◌, ◌≤◌, ◌-◌, ◌++◌, length, take}
use Rattle.mw_model.specs.Lines.{Partial}
use Rattle.mw_session_intake.specs.Intake.{HasNoWholeLine}
use Rattle.mw_session_intake.specs.Reading.{front}
use Rattle.mw_wire.proofs.Ends.{Progress}
use Rattle.mw_wire.proofs.session.serve_piece.Given as goal

abbrev pub invariant-portions : goal.invariant-portions
invariant-portions g l = record {
  within : l.at ≤ length l.fn.piece;
  progress : Progress g.D.Handler.Answer (l.fn.intake.bytes ++ take l.at l.fn.piece) l.intake.bytes l.fn.kept l.kept (g.W.Write.contents l.fn.sink.inner) (g.W.Write.contents l.sink.inner);
  waits : front l.intake.bytes ≡ Partial;
  is_open : HasNoWholeLine l.intake;
  same : l.sink.failed ≡ l.fn.sink.failed;
}

abbrev pub decreases-portions : goal.decreases-portions
decreases-portions g l = length l.fn.piece - l.at
