use Rattle.std.proofs.Common.{[], arith}
use Rattle.mw_core_waves.proofs.Jobs.{answers}
use Rattle.mw_core_waves.proofs.Waving.{wave-run}
use Rattle.mw_core_waves.proofs.wave.run_beside.Goals as goal

pub returns-in-None : goal.returns-in-None
returns-in-None g c = λ m old u.
    c.hand_in.ensures m old [] 1 (omega arith) (wave-run m old c.args.core.now [] 1 c.args.first c.run.result (answers c.args.first c.run.result c.run.ensures.done c.run.ensures.refused) u)
