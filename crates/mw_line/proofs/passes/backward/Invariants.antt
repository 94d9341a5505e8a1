use Rattle.std.proofs.Common.{◌≡◌, ℕ, ◌+◌, ◌<◌, ◌≤◌, length, drop, fold, get_or}
use Rattle.mw_line.proofs.passes.backward.Given as goal

abbrev pub invariant-back : goal.invariant-back
invariant-back g l = record {
  within : l.at ≤ length l.block;
  counted : g.C.Counted.count l.counter + l.at ≡ g.C.Counted.count l.fn.counter + length l.block;
  best : l.best ≡ fold g.C.Counted.merge l.fn.neutral (drop l.at l.block);
  done : (r : ℕ) → l.at ≤ r → r < length l.block → get_or l.tail r l.fn.neutral ≡ fold g.C.Counted.merge l.fn.neutral (drop r l.block);
}

abbrev pub decreases-back : goal.decreases-back
decreases-back g l = l.at
