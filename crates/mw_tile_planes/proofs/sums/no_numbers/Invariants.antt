use Rattle.std.proofs.Common.{◌≡◌, None, replicate}
use Rattle.mw_tile_planes.proofs.sums.no_numbers.Given as goal

abbrev pub invariant-loop : goal.invariant-loop
invariant-loop l = l.numbers.items ≡ replicate l.counter None
