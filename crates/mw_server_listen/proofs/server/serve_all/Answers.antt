use Rattle.std.proofs.Common.{refl, rules, subst}
use Rattle.mw_model.specs.Receipts.{Covers}
use Rattle.mw_server_listen.proofs.SessionPasses.{are_audited}
use Rattle.mw_server_listen.proofs.server.serve_all.Goals as goal

-- the passes that were audited are those that the sessions left
pub returns-clause-audited : goal.returns-clause-audited
returns-clause-audited g c =
    let audit = c.if-not-audit_all.ensures refl in
    are_audited g.S.Session.left c.args.service.sessions c.in_ok-passes.passes.items (search rules) c.in_ok-passes.ensures.left
    (audit.0, audit.1, subst (Covers audit.0.log) c.as_slice.ensures.value audit.2)
