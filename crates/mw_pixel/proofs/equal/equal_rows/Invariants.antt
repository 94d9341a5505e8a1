use Rattle.std.proofs.Common.{◌≡◌, ◌-◌, ◌≤◌, length, take}
use Rattle.mw_pixel.proofs.equal.equal_rows.Given as goal

abbrev pub invariant-by_block : goal.invariant-by_block
invariant-by_block g l = record {
  within : l.at ≤ length l.a;
  so_far : take l.at l.a ≡ take l.at l.b;
}

abbrev pub decreases-by_block : goal.decreases-by_block
decreases-by_block g l = length l.a - l.at

abbrev pub invariant-by_one : goal.invariant-by_one
invariant-by_one g l = record {
  within : l.at ≤ length l.a;
  so_far : take l.at l.a ≡ take l.at l.b;
}

abbrev pub decreases-by_one : goal.decreases-by_one
decreases-by_one g l = length l.a - l.at
