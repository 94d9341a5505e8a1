use Rattle.std.proofs.Common.{◌∙◌, inr, sym}
use Rattle.mw_store.proofs.Living.{dead-held}
use Rattle.mw_store.proofs.columns.Store.kill.Goals as goal

pub leave-waiters-requires-clause-held : goal.leave-waiters-requires-clause-held
leave-waiters-requires-clause-held c = dead-held c.args.cause (sym c.is_dead-dies.ensures ∙ c.if-not-dies.false.1)

pub leave-waiters-requires-clause-alone : goal.leave-waiters-requires-clause-alone
leave-waiters-requires-clause-alone c = inr (sym c.is_wanted-wanted.ensures ∙ c.if-not-dies.false.0)
