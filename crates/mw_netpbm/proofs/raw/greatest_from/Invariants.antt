use Rattle.std.proofs.Common.{◌≡◌, fold, max, length}
use Rattle.mw_netpbm.specs.Rasters.{two_byte_samples}
use Rattle.mw_netpbm.proofs.raw.greatest_from.Given as goal

abbrev pub invariant-words : goal.invariant-words
invariant-words l = fold max l.most (two_byte_samples l.rest) ≡ fold max l.first (two_byte_samples l.fn.bytes)

abbrev pub decreases-words : goal.decreases-words
decreases-words l = length l.rest
