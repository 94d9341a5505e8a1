use Rattle.std.proofs.Common.{◌≡◌, false, length}
use Rattle.mw_netpbm_plain.specs.Reading.{skip_from}
use Rattle.mw_netpbm_plain.proofs.words.skip.Given as goal

abbrev pub invariant-bytes : goal.invariant-bytes
invariant-bytes l = skip_from l.inside l.rest ≡ skip_from false l.fn.bytes

abbrev pub decreases-bytes : goal.decreases-bytes
decreases-bytes l = length l.rest
