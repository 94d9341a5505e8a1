use Rattle.std.proofs.Common.{◌≡◌, ℕ, ◌+◌, ◌-◌, ◌*◌, ◌<◌, ◌≤◌, length, fold, get_or, slice_range}
use Rattle.std.specs.Int.{div_ceil}
use Rattle.mw_line.specs.Line.{combines}
use Rattle.mw_line.proofs.passes.slide.Given as goal

abbrev pub invariant-chunks : goal.invariant-chunks
invariant-chunks g l = record {
  within : l.at ≤ length l.out;
  whole : l.at < length l.out → div_ceil l.at l.k * l.k ≡ l.at;
  counted : g.C.Counted.count l.counter ≡ g.C.Counted.count l.fn.counter + combines l.at l.k;
  done : (i : ℕ) → i < l.at → get_or l.out i l.neutral ≡ fold g.C.Counted.merge l.neutral (slice_range l.padded i (i + l.k));
}

abbrev pub decreases-chunks : goal.decreases-chunks
decreases-chunks g l = length l.initial.out - l.at
