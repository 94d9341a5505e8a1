use Rattle.std.proofs.Common.{None}
use Rattle.mw_model.specs.declared.calls.Call.TheVariants as call
use Rattle.mw_pool.proofs.Handing.{handed-served}
use Rattle.mw_pool.proofs.KeptLemmas.{stands-served, plain-shows-nothing, no-pending}
use Rattle.mw_pool.proofs.kept.LockedState.end_wait.Goals as goal

pub invariant_of-self : goal.invariant_of-self
invariant_of-self g c = record {
  stands = stands-served (λ r. r) c.status.result c.args.self.now.core c.status.new.core (call.Status c.args.name) (None) c.args.self.now.stands c.status.ensures.served c.status.ensures.core_stays;
  handed = handed-served (λ r. r) c.status.result c.args.self.now.core c.status.new.core (call.Status c.args.name) (None) c.args.self.now.roll c.args.self.now.handed c.status.ensures.served c.status.ensures.core_stays;
}

pub returns-clause-settled : goal.returns-clause-settled
returns-clause-settled g c = λ closed. no-pending c.status.result c.args.self.now.core c.status.new.core c.args.name c.args.self.now.stands (λ m s w. c.requires m s (closed, w)) c.status.ensures.served

pub returns-clause-shows_nothing : goal.returns-clause-shows_nothing
returns-clause-shows_nothing g c = plain-shows-nothing c.status.result c.args.self.now.core c.status.new.core (call.Status c.args.name) (None) tt c.args.self.now.stands c.status.ensures.served
