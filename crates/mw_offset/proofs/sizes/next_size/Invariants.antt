use Rattle.std.proofs.Common.{◌<◌, ◌≤◌, ◌*◌}
use Rattle.mw_offset.proofs.sizes.next_size.Given as goal

abbrev pub invariant-loop-count : goal.invariant-loop-count
invariant-loop-count l = record { more : l.least < l.next; twice : l.next ≤ 2 * l.least }
