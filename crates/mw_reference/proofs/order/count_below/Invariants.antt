use Rattle.std.specs.Prelude.{◌≡◌, ◌≤◌, count_by, nat_lt}
use Rattle.mw_reference.proofs.Loops.{under_first}
use Rattle.mw_reference.proofs.order.count_below.Given as goal

abbrev pub invariant-loop-i : goal.invariant-loop-i
invariant-loop-i l = record { counted : l.count ≡ count_by (λ s. nat_lt s l.limit) (under_first l.image l.element l.i l.x l.y); small : l.count ≤ l.i }
