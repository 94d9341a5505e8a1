use Rattle.std.proofs.Common.{◌≡◌, None, rules}
use Rattle.mw_model.specs.Stands.{progress_at}
use Rattle.mw_core_ledger.specs.Books.{seen_of}
use Rattle.mw_core_ledger.proofs.ledger.Ledger.check_running.Goals as goal

pub returns-in_err-check_ticket-clause-stranger : goal.returns-in_err-check_ticket-clause-stranger
returns-in_err-check_ticket-clause-stranger c = λ e r.
    let none : progress_at (seen_of c.args.self.now).work c.args.task.ticket ≡ None = search rules in
    let some = r.work in
    absurd cc
