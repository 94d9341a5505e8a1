use Rattle.std.proofs.Common.{◌≡◌, ◌≤◌, take}
use Rattle.mw_element_runs.specs.Runs.{follows, follows_back, pairs}
use Rattle.mw_element_runs.proofs.runs.is_shorter_turned.Given as goal

abbrev pub invariant-loop-i : goal.invariant-loop-i
invariant-loop-i l = record {
  onward_few : l.onward ≤ l.i;
  back_few : l.back ≤ l.i;
  onward : l.onward ≡ pairs follows (take l.i l.offsets);
  back : l.back ≡ pairs follows_back (take l.i l.offsets);
}
