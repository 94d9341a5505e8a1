use Rattle.std.proofs.Common.{◌≤◌, length}
use Rattle.mw_rank_counts.specs.Counting.{AreBetween}
use Rattle.mw_rank_counts.specs.Squeezed.{BytesHaveRoom}
use Rattle.mw_rank_counts.proofs.counted_16.U16Counted.narrow.Given as goal

abbrev pub invariant-loop-left : goal.invariant-loop-left
invariant-loop-left l = record {
  within : l.left ≤ l.bits;
  room : BytesHaveRoom l.bytes;
  fits : length l.places ≤ length l.bytes.places.items;
  between : AreBetween (λ s. s) 65535 l.samples l.places l.n l.left l.found;
}

abbrev pub decreases-loop-left : goal.decreases-loop-left
decreases-loop-left l = l.left
