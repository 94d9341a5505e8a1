use Rattle.mw_rank_counts.proofs.Lanes.{HasSeen}
use Rattle.mw_rank_counts.proofs.counted_16.U16Counted.lowest.Given as goal

abbrev pub invariant-loop-place : goal.invariant-loop-place
invariant-loop-place l = HasSeen 65535 l.samples l.places l.place-index l.low l.high
