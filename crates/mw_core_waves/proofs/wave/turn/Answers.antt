use Rattle.mw_core_waves.proofs.Jobs.{bounded-answered}
use Rattle.mw_core_waves.proofs.Waving.{wave-answered}
use Rattle.mw_core_waves.proofs.wave.turn.Goals as goal

pub returns-clause-underway : goal.returns-clause-underway
returns-clause-underway g c = λ m old u.
    wave-answered m old c.make_beside-hands.new.core c.args.jobs.items c.answered.result.items c.make_beside-hands.new.beside.items 1 c.answered.ensures (c.make_beside-hands.ensures.underway m old c.args.jobs.items u)

pub returns-clause-jobs : goal.returns-clause-jobs
returns-clause-jobs g c = bounded-answered c.args.jobs.items c.answered.result.items c.answered.ensures c.requires.jobs
