use Rattle.mw_pool.proofs.KeptLemmas.{stands-finished}
use Rattle.mw_pool.proofs.Handing.{handed-finished}
use Rattle.mw_pool.proofs.kept.LockedState.finish_compared.Goals as goal

pub invariant_of-self : goal.invariant_of-self
invariant_of-self g c = record {
  stands = stands-finished c.args.self.now.core c.finish.new.self c.args.done c.finish.result c.args.self.now.stands c.finish.ensures.task;
  handed = handed-finished c.args.self.now.core c.finish.new.self c.args.done c.finish.result c.args.self.now.roll c.args.self.now.handed c.finish.ensures.task;
}
