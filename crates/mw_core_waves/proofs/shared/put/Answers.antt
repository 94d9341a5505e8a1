use Rattle.mw_core_waves.proofs.Jobs.{all-kept, set-kept}
use Rattle.mw_core_waves.proofs.shared.put.Goals as goal

pub returns-then-made-jobs : goal.returns-then-made-jobs
returns-then-made-jobs c = set-kept c.args.jobs.now c.args.made.place c.index-jobs-made.result c.keep.new.self c.if-made-jobs.true c.keep.ensures

pub returns-else-made-jobs : goal.returns-else-made-jobs
returns-else-made-jobs c = all-kept c.args.jobs.now
