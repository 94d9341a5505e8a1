use Rattle.std.proofs.Common.{◌≡◌, true, false, sym, ◌∙◌}
use Rattle.std.proofs.lemmas.Bool.{false≢true}
use Rattle.mw_core_laws.specs.mw_plan.Seen.{planned}
use Rattle.mw_core_tasks.proofs.ResultLemmas.{of-running, rect-of, running-of, step-of}
use Rattle.mw_core_tasks.proofs.results.is_of_running.Goals as goal

pub returns-then-not-is_running-clause-all : goal.returns-then-not-is_running-clause-all
returns-then-not-is_running-clause-all c = λ of.
    let is : c.is_running.result ≡ true = c.is_running.ensures.1 (running-of c.args.progress.now c.args.done.now c.task-id.result c.task-id.ensures of) in
    let not : c.is_running.result ≡ false = c.if-not-is_running.true in
    absurd (false≢true (sym not ∙ is))

pub returns-then-not-is_made_at-clause-all : goal.returns-then-not-is_made_at-clause-all
returns-then-not-is_made_at-clause-all c = λ of.
    let at = rect-of c.args.progress.now c.args.done.now c.task-id.result c.grid-grid.result c.rect.result c.task-id.ensures c.remaining-whole.ensures.whole c.grid-grid.ensures c.rect.ensures.value of in
    let is : c.is_made_at.result ≡ true = c.is_made_at.ensures.1 at in
    let not : c.is_made_at.result ≡ false = c.if-not-is_made_at.true in
    absurd (false≢true (sym not ∙ is))

pub returns-clause-is : goal.returns-clause-is
returns-clause-is c = λ holds.
    of-running c.args.progress.now c.args.done.now c.task-id.result c.grid-grid.result (planned c.step-planned.result.now) c.rect.result c.task-id.ensures c.remaining-whole.ensures.whole c.grid-grid.ensures c.step-planned.ensures c.rect.ensures.value
    (c.is_running.ensures.0 c.if-not-is_running.false) (c.is_made_at.ensures.0 c.if-not-is_made_at.false) (sym c.step.ensures ∙ c.same.ensures.0 holds)

pub returns-clause-all : goal.returns-clause-all
returns-clause-all c = λ of.
    c.same.ensures.1 (c.step.ensures ∙ step-of c.args.progress.now c.args.done.now c.task-id.result (planned c.step-planned.result.now) c.task-id.ensures c.remaining-whole.ensures.whole c.step-planned.ensures of)
