use Rattle.mw_model.specs.declared.calls.Call.TheVariants as call
use Rattle.mw_pool_passes.specs.mw_core_laws.Payloads.{given_element, element_payload}
use Rattle.mw_pool.proofs.Handing.{handed-served}
use Rattle.mw_pool.proofs.KeptLemmas.{stands-served, plain-shows-nothing}
use Rattle.mw_pool.proofs.kept.LockedState.element.Goals as goal

pub invariant_of-self : goal.invariant_of-self
invariant_of-self g c = record {
  stands = stands-served (λ r. r) c.element.result c.args.self.now.core c.element.new.core (call.Element c.args.name (given_element c.args.element)) (element_payload c.args.element) c.args.self.now.stands c.element.ensures.served c.element.ensures.core_stays;
  handed = handed-served (λ r. r) c.element.result c.args.self.now.core c.element.new.core (call.Element c.args.name (given_element c.args.element)) (element_payload c.args.element) c.args.self.now.roll c.args.self.now.handed c.element.ensures.served c.element.ensures.core_stays;
}

pub returns-clause-shows_nothing : goal.returns-clause-shows_nothing
returns-clause-shows_nothing g c = plain-shows-nothing c.element.result c.args.self.now.core c.element.new.core (call.Element c.args.name (given_element c.args.element)) (element_payload c.args.element) tt c.args.self.now.stands c.element.ensures.served
