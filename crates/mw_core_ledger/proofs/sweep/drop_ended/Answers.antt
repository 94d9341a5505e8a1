use Rattle.mw_core_ledger.proofs.SweepLemmas.{keeps-own}
use Rattle.mw_core_ledger.proofs.sweep.drop_ended.Goals as goal

pub returns-else-wanted-clause-swept : goal.returns-else-wanted-clause-swept
returns-else-wanted-clause-swept c = keeps-own c.args.store.now.table c.args.in_progress.now c.args.t c.requires.within (c.requires.ended c.if-wanted.false) (c.requires.others c.if-wanted.false)
