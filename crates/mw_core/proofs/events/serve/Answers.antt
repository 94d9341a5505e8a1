use Rattle.mw_model.specs.declared.calls.Call.TheVariants as call
use Rattle.mw_core.proofs.EventLemmas.{run-happens, fetch-happens}
use Rattle.mw_core.proofs.events.serve.Goals as goal

pub returns-in-Run-clause-happens : goal.returns-in-Run-clause-happens
returns-in-Run-clause-happens c = λ m s.
    rw (c.in-Run.is, ← c.told-in-Run.ensures)
    (run-happens m (call.Run c.in-Run.name c.in-Run.op) c.run.result c.args.core.now c.run.new.self s c.run.ensures.served c.run.ensures.fresh c.run.ensures.err)

pub returns-in-Fetch-clause-happens : goal.returns-in-Fetch-clause-happens
returns-in-Fetch-clause-happens c = λ m s.
    rw (c.in-Fetch.is, ← c.handed.ensures)
    (fetch-happens m (call.Fetch c.in-Fetch.name) c.fetch.result c.args.core.now c.fetch.new.self s c.fetch.ensures.served (c.fetch.ensures.value m s) (c.fetch.ensures.shown m s) c.fetch.ensures.err)
