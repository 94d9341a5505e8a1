use Rattle.mw_core_waves.proofs.Jobs.{all-kept-answered}
use Rattle.mw_core_waves.proofs.job.answer_all.Goals as goal

pub returns : goal.returns
returns g c = all-kept-answered c.args.jobs.now c.put.new.jobs c.run_rest.new.jobs c.put.ensures c.run_rest.ensures
