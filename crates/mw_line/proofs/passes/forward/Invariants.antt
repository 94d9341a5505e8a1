use Rattle.std.proofs.Common.{◌≡◌, ℕ, ◌+◌, ◌-◌, ◌*◌, ◌<◌, ◌≤◌, length, take, fold, get_or}
use Rattle.mw_line.proofs.passes.forward.Given as goal

abbrev pub invariant-on : goal.invariant-on
invariant-on g l = record {
  within : l.at ≤ length l.out;
  counted : g.C.Counted.count l.counter ≡ g.C.Counted.count l.fn.counter + 2 * l.at;
  best : l.best ≡ fold g.C.Counted.merge l.fn.neutral (take l.at l.rest);
  done : (r : ℕ) → r < l.at → get_or l.out r l.fn.neutral ≡ g.C.Counted.merge (get_or l.tail r l.fn.neutral) (fold g.C.Counted.merge l.fn.neutral (take r l.rest));
}

abbrev pub decreases-on : goal.decreases-on
decreases-on g l = length l.initial.out - l.at
