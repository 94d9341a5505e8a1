use Rattle.std.proofs.Common.{◌≡◌, ◌%◌, ◌<◌, ◌≤◌, ℕ, length, sum, Option, ap, sym, subst, ◌∙◌, arith}
use Rattle.mw_model.specs.Machine.{Machine}
use Rattle.mw_model.specs.Stands.{CoreView, StandsFor, ready_count, ready_under}
use Rattle.mw_core_refusals.specs.mw_step_task.WindowTasks.{WindowTask}
use Rattle.mw_core_ledger.specs.mw_core_laws.Facts.{IsComplete}
use Rattle.mw_core_ledger.specs.mw_core_laws.TaskEvents.{BeginsTask, Kills}
use Rattle.mw_core_ledger.specs.mw_core_laws.Turns.{IsAt}
use Rattle.mw_core_ledger.proofs.mw_core_laws.TaskLemmas.{kills, ready-there}
use Rattle.mw_core_ledger.specs.Books.{Book, seen_of}
use Rattle.mw_core_ledger.specs.Tasks.{TakesAt}
use Rattle.mw_core.proofs.BookLemmas.{counted}
use Rattle.mw_core.proofs.TaskLemmas.{complete-seen, takes-begins, takes-some}
use Rattle.mw_core.proofs.machine.Core.start.Goals as goal

pub take-requires-clause-within : goal.take-requires-clause-within
take-requires-clause-within c =
    let Below : ℕ → Type 0 = λ n. c.find-t.result.0 < n in
    subst Below (counted (seen_of c.self.inside.ledger) c.self.inside.counts c.self.invariant) c.find-t.ensures.within

pub follow-requires-clause-count : goal.follow-requires-clause-count
follow-requires-clause-count c =
    let b = c.self.inside.ledger in
    let Taken : Option WindowTask → Type 0 = λ w. TakesAt b c.find-t.result.0 c.take.new.self w in
    let took = subst Taken c.in-Ok-Some.field-0-is c.in-Ok-Some.ensures.taken in
    counted (seen_of b) c.self.inside.counts c.self.invariant ∙ ap (λ (x : Book). length x.table.names) (sym took.book)

pub end-requires-clause-within : goal.end-requires-clause-within
end-requires-clause-within c =
    let Below : ℕ → Type 0 = λ n. c.find-t.result.0 < n in
    subst Below (counted (seen_of c.self.inside.ledger) c.self.inside.counts c.self.invariant ∙ ap (λ (x : Book). length x.table.names) (sym c.in-Err.ensures.same)) c.find-t.ensures.within

pub returns-in-Ok-Some-clause-task : goal.returns-in-Ok-Some-clause-task
returns-in-Ok-Some-clause-task c =
    let b = c.self.inside.ledger in
    let new = c.take.new.self in
    let t = c.find-t.result.0 in
    let Taken : Option WindowTask → Type 0 = λ w. TakesAt b t new w in
    let took = subst Taken c.in-Ok-Some.field-0-is c.in-Ok-Some.ensures.taken in
    let ready : 1 ≤ ready_under (seen_of b) t = omega (arith, c.find-t.ensures.place (seen_of b) c.self.invariant) in
    let Begun : CoreView → Type 0 = λ x. (m : Machine) → StandsFor x m → BeginsTask x m c.in-Ok-Some.work (seen_of new) in
    subst Begun c.self.view_is (λ m s. takes-begins b new m t c.in-Ok-Some.work s c.sound.ensures ready took)

pub returns-in-Ok-Some-clause-turn : goal.returns-in-Ok-Some-clause-turn
returns-in-Ok-Some-clause-turn c =
    let b = c.self.inside.ledger in
    let t = c.find-t.result.0 in
    let Taken : Option WindowTask → Type 0 = λ w. TakesAt b t c.take.new.self w in
    let took = subst Taken c.in-Ok-Some.field-0-is c.in-Ok-Some.ensures.taken in
    let Counted : ℕ → Type 0 = λ n. IsAt (seen_of b) (c.args.place % n) t in
    let Of : ℕ → Type 0 = λ k. IsAt (seen_of b) (c.args.place % ready_count (seen_of b)) k in
    let Shown : CoreView → Type 0 = λ x. IsAt x (c.args.place % ready_count x) c.in-Ok-Some.work.task.ticket in
    subst Shown c.self.view_is (subst Of (sym took.takes.ticket) (subst Counted (c.ready-count.ensures ∙ ap sum c.self.invariant.0) (c.find-t.ensures.turn (seen_of b) c.self.invariant)))

pub returns-in-Ok-Some-clause-bounded : goal.returns-in-Ok-Some-clause-bounded
returns-in-Ok-Some-clause-bounded c =
    let Taken : Option WindowTask → Type 0 = λ w. TakesAt c.self.inside.ledger c.find-t.result.0 c.take.new.self w in
    let took = subst Taken c.in-Ok-Some.field-0-is c.in-Ok-Some.ensures.taken in
    took.takes.bounded

pub returns-in-Ok-None-clause-task : goal.returns-in-Ok-None-clause-task
returns-in-Ok-None-clause-task c = λ m s.
    let b = c.self.inside.ledger in
    let t = c.find-t.result.0 in
    let Taken : Option WindowTask → Type 0 = λ w. TakesAt b t c.take.new.self w in
    let took = subst Taken c.in-Ok-None.field-0-is c.in-Ok-None.ensures.taken in
    let ready : 1 ≤ ready_under (seen_of b) t = omega (arith, c.find-t.ensures.place (seen_of b) c.self.invariant) in
    let Stands : CoreView → Type 0 = λ x. StandsFor x m in
    absurd (takes-some b c.take.new.self m t (subst Stands (sym c.self.view_is) s) c.sound.ensures ready took)

pub returns-in-Ok-None-clause-idle : goal.returns-in-Ok-None-clause-idle
returns-in-Ok-None-clause-idle c = λ m s.
    let b = c.self.inside.ledger in
    let t = c.find-t.result.0 in
    let Taken : Option WindowTask → Type 0 = λ w. TakesAt b t c.take.new.self w in
    let took = subst Taken c.in-Ok-None.field-0-is c.in-Ok-None.ensures.taken in
    let ready : 1 ≤ ready_under (seen_of b) t = omega (arith, c.find-t.ensures.place (seen_of b) c.self.invariant) in
    let Stands : CoreView → Type 0 = λ x. StandsFor x m in
    absurd (takes-some b c.take.new.self m t (subst Stands (sym c.self.view_is) s) c.sound.ensures ready took)

pub returns-in-Err-clause-task : goal.returns-in-Err-clause-task
returns-in-Err-clause-task c =
    let b = c.self.inside.ledger in
    let t = c.find-t.result.0 in
    let e = c.end.ensures in
    let ready : 1 ≤ ready_under (seen_of b) t = omega (arith, c.find-t.ensures.place (seen_of b) c.self.invariant) in
    let Long : ℕ → Type 0 = λ n. t < n in
    let within = subst Long (counted (seen_of b) c.self.inside.counts c.self.invariant) c.find-t.ensures.within in
    let same : seen_of c.take.new.self ≡ seen_of b = ap seen_of c.in-Err.ensures.same in
    let Killed : CoreView → Type 0 = λ x. (m : Machine) → StandsFor x m → (1 ≤ ready_under x t) × Kills x m t c.end.new.self in
    subst Killed c.self.view_is
    (subst Killed same (λ m s.
    let Stands : CoreView → Type 0 = λ x. StandsFor x m in
    let Ready : CoreView → Type 0 = λ x. 1 ≤ ready_under x t in
    let Named : CoreView → Type 0 = λ x. t < length x.table.names in
    let here = subst Ready (sym same) ready in
    let Complete : Book → Type 0 = λ x. IsComplete (seen_of x) in (
      here,
      kills (seen_of c.take.new.self) c.end.new.self m t s (subst Complete (sym c.in-Err.ensures.same) (complete-seen b c.sound.ensures)) (subst Named (sym same) within)
          (ready-there (seen_of c.take.new.self) m t s here).0 e.table e.kept e.work e.log,
    )))
