use Rattle.mw_pool.proofs.KeptLemmas.{stands-refused}
use Rattle.mw_pool.proofs.Handing.{handed-refused}
use Rattle.mw_pool.proofs.kept.LockedState.refuse.Goals as goal

pub invariant_of-self : goal.invariant_of-self
invariant_of-self g c = record {
  stands = stands-refused c.args.self.now.core c.refuse.new.self c.args.refused.task c.refuse.result c.args.self.now.stands c.refuse.ensures.task;
  handed = handed-refused c.args.self.now.core c.refuse.new.self c.args.refused.task c.refuse.result c.args.self.now.roll c.args.self.now.handed c.refuse.ensures.task;
}
