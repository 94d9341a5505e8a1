use Rattle.std.proofs.Common.{None}
use Rattle.mw_model.specs.declared.calls.Call.TheVariants as call
use Rattle.mw_pool.proofs.Handing.{handed-served}
use Rattle.mw_pool.proofs.KeptLemmas.{stands-served, shows-some-if}
use Rattle.mw_pool_passes.specs.mw_store.Fetches.{shown_value}
use Rattle.mw_pool.proofs.kept.LockedState.fetch.Goals as goal

pub invariant_of-self : goal.invariant_of-self
invariant_of-self g c = record {
  stands = stands-served (λ f. f.reply) c.fetch.result c.args.self.now.core c.fetch.new.core (call.Fetch c.args.name) (None) c.args.self.now.stands c.fetch.ensures.served c.fetch.ensures.core_stays;
  handed = handed-served (λ f. f.reply) c.fetch.result c.args.self.now.core c.fetch.new.core (call.Fetch c.args.name) (None) c.args.self.now.roll c.args.self.now.handed c.fetch.ensures.served c.fetch.ensures.core_stays;
}

pub returns-clause-shown : goal.returns-clause-shown
returns-clause-shown g c = shows-some-if (λ f. shown_value f.value) (λ f. f.reply) c.fetch.result c.args.self.now.core c.args.self.now.stands c.fetch.ensures.shown
