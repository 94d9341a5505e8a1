use Rattle.std.proofs.Common.{ℕ, ◌+◌, ◌<◌, get_or}
use Rattle.mw_model.specs.declared.receipts.Receipt.{Receipt}
use Rattle.mw_pool_passes.proofs.auditing.rises.Given as goal

abbrev pub invariant-loop-k : goal.invariant-loop-k
invariant-loop-k l = (j : ℕ) (d : Receipt) → j + 1 < l.k → (get_or l.receipts j d).place < (get_or l.receipts (j + 1) d).place
