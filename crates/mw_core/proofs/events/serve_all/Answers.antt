use Rattle.std.proofs.Common.{◌∙◌, rules, arith, ap, length, length-append, [], ◌∷◌}
use Rattle.std.proofs.lemmas.Grind.{common_steps}
use Rattle.mw_core.proofs.EventLemmas.{happens-push}
use Rattle.mw_core.proofs.events.serve_all.Goals as goal

pub loop-event-preserved : goal.loop-event-preserved
loop-event-preserved c = (
  first_of (search rules, grind (arith, common_steps)),
  λ m s.
      let before = c.loop-event.invariant.1 m s in
      let step = c.serve.ensures.happens before.0 before.2 in (
        step.0,
        rw c.push_reserved.ensures.items (happens-push c.args.core.now c.loop-event.core c.serve.new.core m before.0 step.0 c.loop-event.yielded c.loop-event.answers.items c.in-Some.event c.serve.result before.1 step.1 step.2 c.serve.ensures.side),
        step.2,
      ),
  omega (arith, c.loop-event.invariant.2, ap length c.in-Some.ensures.steps.0, ap length c.push_reserved.ensures.items, length-append c.loop-event.answers.items (c.serve.result ∷ []), c.push_reserved.ensures.capacity),
  c.serve.ensures.side ∙ c.loop-event.invariant.3,
)
