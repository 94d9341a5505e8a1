use Rattle.std.proofs.Common.{◌≡◌, length}
use Rattle.mw_session_intake.specs.Intake.{IsTidy}
use Rattle.mw_wire.proofs.Ends.{Progress}
use Rattle.mw_wire.proofs.session.drain.Given as goal

abbrev pub invariant-requests : goal.invariant-requests
invariant-requests g l =
    Progress g.D.Handler.Answer l.fn.intake.bytes l.intake.bytes l.fn.kept l.kept (g.W.Write.contents l.fn.sink.inner) (g.W.Write.contents l.sink.inner)
    × (l.sink.failed ≡ l.fn.sink.failed)
    × IsTidy l.intake

abbrev pub decreases-requests : goal.decreases-requests
decreases-requests g l = length l.intake.bytes
