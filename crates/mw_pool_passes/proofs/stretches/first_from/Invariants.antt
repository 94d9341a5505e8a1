use Rattle.std.proofs.Common.{ℕ, ◌-◌, ◌<◌, ◌≤◌, get_or, length}
use Rattle.mw_model.specs.declared.receipts.Receipt.{Receipt}
use Rattle.mw_pool_passes.proofs.stretches.first_from.Given as goal

abbrev pub invariant-halving : goal.invariant-halving
invariant-halving l = record {
  order : l.low ≤ l.high;
  within : l.high ≤ length l.receipts;
  before : (k : ℕ) (d : Receipt) → k < l.low → (get_or l.receipts k d).place < l.place;
  behind : (k : ℕ) (d : Receipt) → l.high ≤ k → k < length l.receipts → l.place ≤ (get_or l.receipts k d).place;
}

abbrev pub decreases-halving : goal.decreases-halving
decreases-halving l = l.high - l.low
