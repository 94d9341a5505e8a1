use Rattle.std.proofs.Common.{◌≡◌, ◌+◌, ◌≤◌}
use Rattle.mw_netpbm_plain.specs.Plain.{plain_at}
use Rattle.mw_netpbm_plain.specs.PlainSamples.{ones_of, place_in_text}
use Rattle.mw_netpbm_plain.proofs.PlainLoop.{plus}
use Rattle.mw_netpbm_plain.proofs.plain.count_ones.Given as goal

abbrev pub invariant-places : goal.invariant-places
invariant-places l = record {
  value : plus l.ones (ones_of (plain_at (place_in_text l.places) l.left l.rest)) ≡ ones_of (plain_at (place_in_text l.places) l.count l.fn.bytes);
  low : l.ones + l.left ≤ l.count;
}

abbrev pub decreases-places : goal.decreases-places
decreases-places l = l.left
