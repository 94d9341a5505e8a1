use Rattle.mw_core_ledger.proofs.ledger.Ledger.check_result.Goals as goal

pub returns-then-has_result-clause-ok : goal.returns-then-has_result-clause-ok
returns-then-has_result-clause-ok c = c.has_result.ensures.result c.if-has_result.true
