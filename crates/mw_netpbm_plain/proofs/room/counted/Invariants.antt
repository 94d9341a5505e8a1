use Rattle.std.proofs.Common.{length}
use Rattle.mw_netpbm_plain.proofs.Tallies.{IsTally}
use Rattle.mw_netpbm_plain.proofs.room.counted.Given as goal

abbrev pub invariant-by_block : goal.invariant-by_block
invariant-by_block l = IsTally l.tally.signs l.tally.words l.tally.blank l.tally.hash l.rest l.bytes

abbrev pub decreases-by_block : goal.decreases-by_block
decreases-by_block l = length l.rest
