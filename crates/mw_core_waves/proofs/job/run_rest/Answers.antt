use Rattle.mw_core_waves.specs.Jobs.{IsAnswered}
use Rattle.mw_core_waves.proofs.Jobs.{zip-each}
use Rattle.mw_core_waves.proofs.job.run_rest.Goals as goal

pub returns : goal.returns
returns g c = zip-each IsAnswered c.args.jobs.now c.for_each_mut.new.s c.for_each_mut.auto.s (λ i d l.
    let at = (c.for_each_mut.ensures i d l).1 in
    rw (← at.argument_is, ← at.left) at.call)
