use Rattle.mw_pool_passes.proofs.AuditLemmas.{logged-iff}
use Rattle.mw_pool_passes.proofs.auditing.is_logged.Goals as goal

pub returns : goal.returns
returns c = logged-iff c.args.core.now.log c.args.receipt.now c.log_at.result c.is_of.result c.log_at.ensures c.is_of.ensures
