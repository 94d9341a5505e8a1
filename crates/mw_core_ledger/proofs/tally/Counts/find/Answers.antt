use Rattle.std.proofs.Common.{◌≡◌, ℕ, ◌∙◌, List, length, sum, take, ap, arith}
use Rattle.mw_model.specs.Stands.{ready_under}
use Rattle.mw_core_tasks.specs.mw_core_laws.Turns.{ready_before}
use Rattle.mw_core_ledger.specs.Counts.{Tally}
use Rattle.mw_core_ledger.proofs.Rows.{row, row-first}
use Rattle.mw_core_ledger.proofs.tally.Counts.find.Goals as goal

pub returns-clause-turn : goal.returns-clause-turn
returns-clause-turn c s counts =
    let f = c.find-t in
    let xs = c.self.inside.ready in
    let is : xs ≡ row (ready_under s) (length s.table.names) = ap (λ (d : Tally). d.ready) c.self.view_is ∙ counts.0 in
    let first = row-first xs (ready_under s) (length s.table.names) f.result.0 is f.ensures.within in
    let before : sum (take f.result.0 xs) ≡ ready_before s f.result.0 = ap (λ (l : List ℕ). sum l) first.0 in
    record { from = omega (arith, before, f.ensures.before); below = omega (arith, before, first.1, f.ensures.here) }

pub returns-clause-place : goal.returns-clause-place
returns-clause-place c s counts =
    let f = c.find-t in
    let xs = c.self.inside.ready in
    let is : xs ≡ row (ready_under s) (length s.table.names) = ap (λ (d : Tally). d.ready) c.self.view_is ∙ counts.0 in
    let first = row-first xs (ready_under s) (length s.table.names) f.result.0 is f.ensures.within in
    omega (arith, first.1, f.ensures.here, f.ensures.rest, f.ensures.before)
