use Rattle.std.proofs.Common.{take}
use Rattle.mw_rank_counts.proofs.Lanes.{HasCounted}
use Rattle.mw_rank_counts.proofs.counted_8.counts_up_to.Given as goal

abbrev pub invariant-loop-place : goal.invariant-loop-place
invariant-loop-place l = HasCounted 255 l.samples (take l.place-index l.places) l.last l.counts
