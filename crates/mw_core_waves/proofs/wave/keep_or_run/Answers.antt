use Rattle.std.proofs.Common.{◌++◌, arith}
use Rattle.mw_core_waves.specs.declared.job.WaveTask.TheVariants as job
use Rattle.mw_core_waves.specs.Jobs.{IsBoundedJob}
use Rattle.mw_core_waves.proofs.Jobs.{all-last, answers, bounded-answer}
use Rattle.mw_core_waves.proofs.Waving.{wave-pushed, wave-run}
use Rattle.mw_core_waves.proofs.wave.keep_or_run.Goals as goal

pub hand_in-requires : goal.hand_in-requires
hand_in-requires c =
    bounded-answer c.args.work c.run.result (answers c.args.work c.run.result c.run.ensures.done c.run.ensures.refused) c.requires.bounded

pub returns-then-is_small-clause-underway : goal.returns-then-is_small-clause-underway
returns-then-is_small-clause-underway c = λ m old others u.
    let beside = others ++ c.args.jobs.now.items in
    c.hand_in.ensures m old beside 1 (omega arith) (wave-run m old c.args.core.now beside 1 c.args.work c.run.result (answers c.args.work c.run.result c.run.ensures.done c.run.ensures.refused) u)

pub returns-clause-underway : goal.returns-clause-underway
returns-clause-underway c = λ m old others u.
    rw c.push_reserved.ensures.items (wave-pushed m old c.args.core.now (job.Waits c.args.work) others c.args.jobs.now.items 1 u)

pub returns-clause-jobs : goal.returns-clause-jobs
returns-clause-jobs c = rw c.push_reserved.ensures.items (all-last IsBoundedJob c.args.jobs.now.items (job.Waits c.args.work) c.requires.bounded c.requires.jobs)
