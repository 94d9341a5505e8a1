use Rattle.std.proofs.Common.{◌≡◌, ◌-◌, ◌*◌, ◌^◌, ◌≤◌, take, length}
use Rattle.std.specs.Prelude.{sum_by}
use Rattle.mw_step.proofs.singles.total.Given as goal

abbrev pub invariant-by_block : goal.invariant-by_block
invariant-by_block g l = record {
  is : l.total ≡ sum_by g.P.Pixel.level (take l.at l.samples);
  small : l.total ≤ l.at * 2 ^ 32;
  within : l.at ≤ length l.samples;
}

abbrev pub decreases-by_block : goal.decreases-by_block
decreases-by_block g l = length l.samples - l.at

abbrev pub invariant-by_one : goal.invariant-by_one
invariant-by_one g l = record {
  is : l.total ≡ sum_by g.P.Pixel.level (take l.at l.samples);
  small : l.total ≤ l.at * 2 ^ 32;
  within : l.at ≤ length l.samples;
}

abbrev pub decreases-by_one : goal.decreases-by_one
decreases-by_one g l = length l.samples - l.at
