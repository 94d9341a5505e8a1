-- The counts beside the book of a ledger.
use Rattle.std.proofs.Common.{◌≡◌, length, ap, ◌∙◌}
use Rattle.std.proofs.lemmas.List.FromFn.{length-map-range_with_len}
use Rattle.mw_model.specs.Stands.{CoreView, ready_under}
use Rattle.mw_core_ledger.specs.Counts.{AreCounts, Tally}

-- counts that are right are there for each name
pub counted : (c : CoreView) (k : Tally) → AreCounts c k → length k.ready ≡ length c.table.names
counted c k right = ap length right.0 ∙ length-map-range_with_len (ready_under c) 0 (length c.table.names)
