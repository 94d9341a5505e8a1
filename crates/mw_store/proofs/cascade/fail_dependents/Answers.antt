use Rattle.std.proofs.Common.{◌+◌, ◌<◌, [], ◌∷◌, ◌++◌, length, take, set, ap, ◌∙◌, arith}
use Rattle.std.proofs.lemmas.List.{take_more_set, drop-set-lt, length-set}
use Rattle.mw_store.proofs.CascadeLemmas.{cascaded-more}
use Rattle.mw_store.proofs.cascade.fail_dependents.Goals as goal

pub loop-t-preserved : goal.loop-t-preserved
loop-t-preserved c =
    let os = c.loop-t.outcomes in
    let es = c.args.submissions.now in
    let t = c.loop-t.t in
    let within : t < length es = c.loop-t-test.true in
    let within' : t < length os = omega arith in (
      omega (arith, length-set os t c.beside_inputs.result),
      cascaded-more es os (set os t c.beside_inputs.result) t within within' (c.requires.below t within)
          (take_more_set os t c.beside_inputs.result within' ∙ ap (λ o. take t os ++ o ∷ []) c.beside_inputs.ensures)
          (drop-set-lt (t + 1) os t c.beside_inputs.result (omega arith))
          ∙ c.loop-t.invariant.1,
    )
