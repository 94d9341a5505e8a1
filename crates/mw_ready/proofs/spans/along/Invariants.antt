use Rattle.std.proofs.Common.{◌≡◌, ℕ, ◌<◌, ◌≤◌, length, get_or}
use Rattle.mw_ready.specs.Spans.{span_of}
use Rattle.mw_ready.proofs.spans.along.Given as goal

abbrev pub invariant-loop-at : goal.invariant-loop-at
invariant-loop-at l = record {
  size : length l.found ≡ length l.initial.found;
  each : (k : ℕ) → k < l.at → get_or l.found k 0 ≡ span_of l.count l.side k l.before l.after;
  low : (k : ℕ) → k < l.at → get_or l.found k 0 ≤ 128;
}
