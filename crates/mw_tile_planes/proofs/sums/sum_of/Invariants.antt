use Rattle.std.proofs.Common.{◌≡◌, ◌*◌, ◌^◌, ◌≤◌, take, sum_by}
use Rattle.mw_tile_planes.specs.Sums.{number_or_zero}
use Rattle.mw_tile_planes.proofs.sums.sum_of.Given as goal

abbrev pub invariant-loop-number : goal.invariant-loop-number
invariant-loop-number l = record {
  so_far : l.total ≡ sum_by number_or_zero (take l.number-index l.numbers);
  small : l.total ≤ l.number-index * 2 ^ 40;
}
