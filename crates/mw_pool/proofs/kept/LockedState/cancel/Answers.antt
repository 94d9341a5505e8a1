use Rattle.std.proofs.Common.{None}
use Rattle.mw_model.specs.declared.calls.Call.TheVariants as call
use Rattle.mw_pool.proofs.Handing.{handed-served}
use Rattle.mw_pool.proofs.KeptLemmas.{stands-served, plain-shows-nothing}
use Rattle.mw_pool.proofs.kept.LockedState.cancel.Goals as goal

pub invariant_of-self : goal.invariant_of-self
invariant_of-self g c = record {
  stands = stands-served (λ r. r) c.cancel.result c.args.self.now.core c.cancel.new.core (call.Cancel c.args.name) (None) c.args.self.now.stands c.cancel.ensures.served c.cancel.ensures.core_stays;
  handed = handed-served (λ r. r) c.cancel.result c.args.self.now.core c.cancel.new.core (call.Cancel c.args.name) (None) c.args.self.now.roll c.args.self.now.handed c.cancel.ensures.served c.cancel.ensures.core_stays;
}

pub returns-clause-shows_nothing : goal.returns-clause-shows_nothing
returns-clause-shows_nothing g c = plain-shows-nothing c.cancel.result c.args.self.now.core c.cancel.new.core (call.Cancel c.args.name) (None) tt c.args.self.now.stands c.cancel.ensures.served
