use Rattle.mw_model.specs.Machine.{Machine}
use Rattle.mw_model.specs.Stands.{StandsFor}
use Rattle.mw_pool_passes.specs.mw_core.TaskAnswers.{AnswersFinish}
use Rattle.mw_pool.proofs.KeptLemmas.{stands-finished}
use Rattle.mw_pool.proofs.Handing.{handed-finished, roll-own}
use Rattle.mw_pool.proofs.kept.LockedState.finish_own.Goals as goal

pub invariant_of-self : goal.invariant_of-self
invariant_of-self g c =
    let old = c.args.self.now.core in
    let new = c.finish_own.new.self in
    let task : (m : Machine) → StandsFor old m → AnswersFinish old m c.args.done c.finish_own.result new
    = λ m s. c.finish_own.ensures.task m s (roll-own old c.args.self.now.roll c.args.done c.args.self.now.handed c.requires.handed m s) in
    record {
      stands = stands-finished old new c.args.done c.finish_own.result c.args.self.now.stands task;
      handed = handed-finished old new c.args.done c.finish_own.result c.args.self.now.roll c.args.self.now.handed task;
    }

pub returns-clause-task : goal.returns-clause-task
returns-clause-task g c =
    λ m s. c.finish_own.ensures.task m s (roll-own c.args.self.now.core c.args.self.now.roll c.args.done c.args.self.now.handed c.requires.handed m s)
