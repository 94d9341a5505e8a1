use Rattle.std.proofs.Common.{◌≡◌, true, false, List, map, get_or, sym, ap, ◌∙◌, subst}
use Rattle.std.proofs.lemmas.Bool.{false≢true}
use Rattle.mw_model.specs.declared.tasks.TaskId.{TaskId}
use Rattle.mw_model.specs.Tasks.{nothing_planned}
use Rattle.mw_core_laws.specs.mw_plan.Seen.{planned}
use Rattle.mw_core_laws.specs.mw_tile.Windows.{SourceWindow}
use Rattle.mw_core_laws.specs.mw_core_planes.Levels.{no_level}
use Rattle.mw_core_tasks.specs.Results.{level_of_window}
use Rattle.mw_core_tasks.proofs.ResultLemmas.{fit-of, found-levels, found-of-running, of-work, running-of}
use Rattle.mw_core_tasks.proofs.results.is_fit.Goals as goal

pub returns-then-not-is_of_running-clause-all : goal.returns-then-not-is_of_running-clause-all
returns-then-not-is_of_running-clause-all c = λ image found.
    let is : c.is_of_running.result ≡ true = c.is_of_running.ensures.all (found-of-running image c.args.progress.now c.args.done.now found) in
    let not : c.is_of_running.result ≡ false = c.if-not-is_of_running.true in
    absurd (false≢true (sym not ∙ is))

pub step-planned-requires : goal.step-planned-requires
step-planned-requires c = (running-of c.args.progress.now c.args.done.now c.task-id.result c.task-id.ensures (c.is_of_running.ensures.is c.if-not-is_of_running.false)).0

pub has_first_level-requires : goal.has_first_level-requires
has_first_level-requires c =
    let u = c.args.progress.now in
    let d = c.args.done.now in
    let q = planned c.step-planned.result.now in
    let Step : TaskId → Type 0 = λ k. q ≡ get_or u.progress.plan k.step nothing_planned in
    of-work u d q c.remaining-whole.ensures.whole (c.is_of_running.ensures.is c.if-not-is_of_running.false) (subst Step c.task-id.ensures c.step-planned.ensures)

pub returns-clause-result : goal.returns-clause-result
returns-clause-result c = λ holds.
    let u = c.args.progress.now in
    let d = c.args.done.now in
    let q = planned c.step-planned.result.now in
    let Step : TaskId → Type 0 = λ k. q ≡ get_or u.progress.plan k.step nothing_planned in
    let first = ap (λ (ws : List SourceWindow). get_or (map level_of_window ws) 0 no_level) (sym c.windows.ensures.value) ∙ c.has_first_level.ensures.first holds in
    fit-of u d q (c.is_of_running.ensures.is c.if-not-is_of_running.false) (subst Step c.task-id.ensures c.step-planned.ensures) first c.requires

pub returns-clause-all : goal.returns-clause-all
returns-clause-all c = λ image found.
    let u = c.args.progress.now in
    let d = c.args.done.now in
    let q = planned c.step-planned.result.now in
    let Step : TaskId → Type 0 = λ k. q ≡ get_or u.progress.plan k.step nothing_planned in
    c.has_first_level.ensures.all (ap (λ (ws : List SourceWindow). map level_of_window ws) c.windows.ensures.value ∙ found-levels image u d q c.remaining-whole.ensures.whole (subst Step c.task-id.ensures c.step-planned.ensures) found)
