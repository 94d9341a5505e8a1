use Rattle.std.proofs.Common.{List, ◌∷◌, ◌++◌, ap, ◌∙◌, subst, arith}
use Rattle.std.specs.List.{AllByRecursion}
use Rattle.mw_core_waves.specs.declared.job.WaveTask.{WaveTask}
use Rattle.mw_core_waves.specs.Jobs.{IsBoundedJob}
use Rattle.mw_core_waves.specs.Waves.{Underway}
use Rattle.mw_core_waves.proofs.Jobs.{answers, bounded-answer}
use Rattle.mw_core_waves.proofs.Waving.{wave-run}
use Rattle.mw_core_waves.proofs.wave.hand_all.Goals as goal

pub hand_in-requires-in-Waits : goal.hand_in-requires-in-Waits
hand_in-requires-in-Waits c =
    let P : List WaveTask → Type 0 = λ l. AllByRecursion IsBoundedJob l in
    let bounded = subst P (c.in-Some.ensures.steps.0 ∙ ap (λ j. j ∷ c.next.new.self.rest.items) c.in-Waits.is) c.loop-job.invariant.1 in
    bounded-answer c.in-Waits.work c.run.result (answers c.in-Waits.work c.run.result c.run.ensures.done c.run.ensures.refused) bounded.0

pub loop-job-preserved-in-Waits : goal.loop-job-preserved-in-Waits
loop-job-preserved-in-Waits c =
    let rest = c.next.new.self.rest.items in
    let step = c.in-Some.ensures.steps.0 ∙ ap (λ j. j ∷ rest) c.in-Waits.is in
    let B : List WaveTask → Type 0 = λ l. AllByRecursion IsBoundedJob l in (
      (λ m old others u.
          let P : List WaveTask → Type 0 = λ l. Underway m old c.loop-job.core (l ++ others) 1 in
          let h = subst P step (c.loop-job.invariant.0 m old others u) in
          c.hand_in-in-Waits.ensures m old (rest ++ others) 1 (omega arith) (wave-run m old c.loop-job.core (rest ++ others) 1 c.in-Waits.work c.run.result (answers c.in-Waits.work c.run.result c.run.ensures.done c.run.ensures.refused) h)),
      (subst B step c.loop-job.invariant.1).1,
    )
