use Rattle.mw_pool.proofs.KeptLemmas.{stands-started}
use Rattle.mw_pool.proofs.Handing.{handed-started}
use Rattle.mw_pool.proofs.kept.LockedState.start.Goals as goal

pub invariant_of-self : goal.invariant_of-self
invariant_of-self g c = record {
  stands = stands-started c.args.self.now.core c.start-started.new.self c.start-started.result c.args.self.now.stands c.start-started.ensures.task;
  handed = handed-started c.args.self.now.core c.start-started.new.self c.start-started.result c.write-slip.result c.args.self.now.roll c.write-slip.new.self c.write-slip.ensures c.args.self.now.handed c.start-started.ensures.task;
}
