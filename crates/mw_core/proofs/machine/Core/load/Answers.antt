use Rattle.std.proofs.Common.{◌≡◌, ◌++◌, ◌∷◌, [], None}
use Rattle.mw_model.specs.declared.calls.Given.TheVariants as given
use Rattle.mw_model.specs.declared.calls.Call.TheVariants as call
use Rattle.mw_model.specs.declared.calls.LogItem.TheVariants as item
use Rattle.mw_core_ledger.specs.mw_core_laws.Events.{FollowsMachine}
use Rattle.mw_core_refusals.specs.Faults.{IsFault}
use Rattle.mw_core_ledger.proofs.mw_core_laws.CallLemmas.{by-each}
use Rattle.mw_core.proofs.FaultLemmas.{serves-fault-load}
use Rattle.mw_core.proofs.machine.Core.load.Goals as goal

pub returns-in-Err-clause-served : goal.returns-in-Err-clause-served
returns-in-Err-clause-served c =
    let old = c.args.self.now in
    let new = c.fault.new.self in
    let n = c.args.name in
    let q = call.Load n (given.Bad c.in-Err.code) in
    rw c.in-Err.is
    (by-each c.fault.result (IsFault old.table n c.in-Err.code) (FollowsMachine old q None new) (λ r. new ≡ record old { log = old.log ++ item.Call q r ∷ [] }) c.fault.ensures.told c.fault.ensures.ok
    (λ r told is. serves-fault-load old new n c.in-Err.code r told is))
