use Rattle.mw_model.specs.declared.calls.Call.TheVariants as call
use Rattle.mw_pool_passes.specs.mw_core_laws.Payloads.{given_image, image_payload}
use Rattle.mw_pool.proofs.Handing.{handed-served}
use Rattle.mw_pool.proofs.KeptLemmas.{stands-served, plain-shows-nothing}
use Rattle.mw_pool.proofs.kept.LockedState.load.Goals as goal

pub invariant_of-self : goal.invariant_of-self
invariant_of-self g c = record {
  stands = stands-served (λ r. r) c.load.result c.args.self.now.core c.load.new.core (call.Load c.args.name (given_image c.args.image)) (image_payload c.args.image) c.args.self.now.stands c.load.ensures.served c.load.ensures.core_stays;
  handed = handed-served (λ r. r) c.load.result c.args.self.now.core c.load.new.core (call.Load c.args.name (given_image c.args.image)) (image_payload c.args.image) c.args.self.now.roll c.args.self.now.handed c.load.ensures.served c.load.ensures.core_stays;
}

pub returns-clause-shows_nothing : goal.returns-clause-shows_nothing
returns-clause-shows_nothing g c = plain-shows-nothing c.load.result c.args.self.now.core c.load.new.core (call.Load c.args.name (given_image c.args.image)) (image_payload c.args.image) tt c.args.self.now.stands c.load.ensures.served
