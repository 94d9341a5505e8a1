use Rattle.std.proofs.Common.{rules}
use Rattle.mw_core_waves.proofs.wave.+hands.Goals as goal

pub returns-clause-made : goal.returns-clause-made
returns-clause-made g t c = c.take.ensures c.args.jobs.now (search rules) (search rules)
