use Rattle.std.proofs.Common.{Global, ◌++◌, sym, subst}
use Rattle.std.specs.Prelude.{Vec}
use Rattle.mw_core_waves.specs.declared.job.WaveTask.{WaveTask}
use Rattle.mw_core_waves.specs.Waves.{Underway}
use Rattle.mw_core_waves.proofs.wave.own_part.Goals as goal

pub returns-clause-underway : goal.returns-clause-underway
returns-clause-underway g c = λ m old others u.
    let P : Vec WaveTask Global → Type 0 = λ v. Underway m old c.args.core.now (v.items ++ others) 1 in
    c.take_wave.ensures.underway m old others (c.hand_all.ensures m old others (subst P (sym c.replace-done.ensures.value) u))
