use Rattle.std.proofs.Common.{◌≡◌, ◌≤◌, length}
use Rattle.mw_netpbm_plain.specs.Reading.{digits_from}
use Rattle.mw_netpbm_plain.proofs.words.number.Given as goal

abbrev pub invariant-digits : goal.invariant-digits
invariant-digits l = record { value : digits_from l.n l.rest ≡ digits_from 0 l.fn.bytes; small : l.n ≤ 4294967296 }

abbrev pub decreases-digits : goal.decreases-digits
decreases-digits l = length l.rest
