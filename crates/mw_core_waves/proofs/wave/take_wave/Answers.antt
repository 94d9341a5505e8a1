use Rattle.std.proofs.Common.{List, ◌++◌, sym, ap, ◌∙◌, subst}
use Rattle.std.proofs.lemmas.List.{append-nil}
use Rattle.mw_core_waves.specs.declared.job.WaveTask.{WaveTask}
use Rattle.mw_core_waves.specs.Waves.{Underway}
use Rattle.mw_core_waves.proofs.wave.take_wave.Goals as goal

pub returns-in-Ok-clause-underway : goal.returns-in-Ok-clause-underway
returns-in-Ok-clause-underway g c = λ m old others u.
    let P : List WaveTask → Type 0 = λ l. Underway m old c.args.core.now l 1 in
    c.take_more.ensures.underway m old others (subst P (sym (ap (λ l. others ++ l) c.in-Ok.ensures.items ∙ append-nil others)) u)
