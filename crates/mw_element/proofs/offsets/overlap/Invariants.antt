use Rattle.std.proofs.Common.{◌+◌, length}
use Rattle.mw_element.proofs.Order.{Passes}
use Rattle.mw_element.proofs.offsets.overlap.Given as goal

abbrev pub invariant-offsets : goal.invariant-offsets
invariant-offsets l = Passes l.is_first_turned l.is_second_turned l.first_rest l.second_rest l.fn.first l.fn.second

abbrev pub decreases-offsets : goal.decreases-offsets
decreases-offsets l = length l.first_rest + length l.second_rest
