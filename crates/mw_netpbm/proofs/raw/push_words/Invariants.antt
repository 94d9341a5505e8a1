use Rattle.std.proofs.Common.{◌≡◌, ◌++◌, length}
use Rattle.mw_netpbm.specs.Rasters.{two_byte_samples}
use Rattle.mw_netpbm.proofs.raw.push_words.Given as goal

abbrev pub invariant-words : goal.invariant-words
invariant-words l = l.out.items ++ two_byte_samples l.rest ≡ l.fn.out.items ++ two_byte_samples l.fn.bytes

abbrev pub decreases-words : goal.decreases-words
decreases-words l = length l.rest
