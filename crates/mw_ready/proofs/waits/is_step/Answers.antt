use Rattle.std.proofs.Common.{◌≡◌, nat_lt, ap, sym, arith, inl, inr}
use Rattle.std.proofs.lemmas.Bool.{cases_lt, lt-ltb, le-ltb}
use Rattle.mw_grid.specs.Counts.{bit}
use Rattle.mw_ready.proofs.Firsts.{count-source, count-no_source}
use Rattle.mw_ready.proofs.waits.is_step.Goals as goal

pub returns-in-Some-clause-value : goal.returns-in-Some-clause-value
returns-in-Some-clause-value c =
    let k = c.in-Some.step in
    let n = c.args.steps in
    let value = count-source c.args.source k n c.in-Some.is in
    elim (cases_lt k n) [
      | inl lt ↦ (let is : c.from.result ≡ 1 = rw (lt-ltb k n lt) at c.from.ensures in let one : bit (nat_lt k n) ≡ 1 = ap bit (lt-ltb k n lt) in omega arith)
      | inr le ↦ (let is : c.from.result ≡ 0 = rw (le-ltb k n le) at c.from.ensures in let none : bit (nat_lt k n) ≡ 0 = ap bit (le-ltb k n le) in omega arith)
    ]

pub returns-in-None-clause-value : goal.returns-in-None-clause-value
returns-in-None-clause-value c = sym (count-no_source c.args.source c.args.steps c.in-None.is)
