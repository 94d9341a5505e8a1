use Rattle.std.proofs.Common.{◌∷◌, subst}
use Rattle.std.specs.Prelude.{Result}
use Rattle.mw_step.specs.mw_step_task.WindowTasks.{WindowTask}
use Rattle.mw_step.specs.mw_step_task.declared.done.TaskRefused.{TaskRefused}
use Rattle.mw_core_waves.specs.declared.job.WaveTask.TheVariants as job
use Rattle.mw_core_waves.specs.Jobs.{IsBoundedJob}
use Rattle.mw_core_waves.specs.Waves.{Underway}
use Rattle.mw_core_waves.proofs.Waving.{finish-hand, handed-own, refuse-hand}
use Rattle.mw_core_waves.proofs.wave.hand_in.Goals as goal

pub finish_own-answer-requires : goal.finish_own-answer-requires
finish_own-answer-requires c =
    let P : Result WindowTask TaskRefused → Type 0 = λ a. IsBoundedJob (job.Ran a) in
    subst P c.in-Ok.is c.requires

pub returns-in-Ok : goal.returns-in-Ok
returns-in-Ok c = λ m old jobs n small h.
    let P : Result WindowTask TaskRefused → Type 0 = λ a. Underway m old c.args.core.now (job.Ran a ∷ jobs) n in
    let k = subst P c.in-Ok.is h in
    finish-hand m old c.args.core.now c.finish_own-answer.new.self c.in-Ok.done jobs n c.finish_own-answer.result small k (c.finish_own-answer.ensures.task k.state k.stands (handed-own m old c.args.core.now c.in-Ok.done jobs n k)) c.finish_own-answer.ensures.side

pub returns-in-Err : goal.returns-in-Err
returns-in-Err c = λ m old jobs n small h.
    let P : Result WindowTask TaskRefused → Type 0 = λ a. Underway m old c.args.core.now (job.Ran a ∷ jobs) n in
    let k = subst P c.in-Err.is h in
    refuse-hand m old c.args.core.now c.refuse-answer.new.self c.in-Err.refused jobs n c.refuse-answer.result small k (c.refuse-answer.ensures.task k.state k.stands) c.refuse-answer.ensures.side
