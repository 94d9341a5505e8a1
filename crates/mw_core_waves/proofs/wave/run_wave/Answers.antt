use Rattle.std.proofs.Common.{[]}
use Rattle.mw_core.proofs.mw_core_laws.IdleLemmas.{nothing-pending}
use Rattle.mw_core_waves.proofs.Waving.{wave-begins, wave-ends}
use Rattle.mw_core_waves.proofs.wave.run_wave.Goals as goal

pub returns-in-Idle : goal.returns-in-Idle
returns-in-Idle g c = λ m s none.
    let e = c.in-Idle.ensures.took m c.args.core.now [] 0 (wave-begins m c.args.core.now s none) in
    (e.1, nothing-pending c.args.core.now m s e.0 none)

pub returns-in-Refused : goal.returns-in-Refused
returns-in-Refused g c = λ m s none.
    wave-ends m c.args.core.now c.start_next.new.core (c.in-Refused.ensures.took m c.args.core.now [] 0 (wave-begins m c.args.core.now s none))

pub returns-in-Work : goal.returns-in-Work
returns-in-Work g c = λ m s none.
    let w = c.in-Work.ensures.took m c.args.core.now [] 0 (wave-begins m c.args.core.now s none) in
    wave-ends m c.args.core.now c.run_beside.new.core (c.run_beside.ensures m c.args.core.now w)
