use Rattle.std.specs.Prelude.{◌≡◌, ◌≤◌, length}
use Rattle.mw_reference.proofs.Loops.{under_first}
use Rattle.mw_reference.proofs.order.count_seen.Given as goal

abbrev pub invariant-loop-i : goal.invariant-loop-i
invariant-loop-i l = record { counted : l.count ≡ length (under_first l.image l.element l.i l.x l.y); small : l.count ≤ l.i }
