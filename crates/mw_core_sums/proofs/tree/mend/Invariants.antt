use Rattle.std.proofs.Common.{◌≡◌, ◌≢◌, ℕ, ◌+◌, ◌<◌, ◌≤◌, get_or}
use Rattle.mw_core_sums.specs.Trees.{IsSum}
use Rattle.mw_core_sums.proofs.tree.mend.Given as goal

abbrev pub invariant-loop-node : goal.invariant-loop-node
invariant-loop-node l = record {
  low : l.node < l.room;
  sums : (q : ℕ) → 1 ≤ q → q < l.room → q ≢ l.node → IsSum l.tree q;
  leaves : (j : ℕ) → get_or l.tree (l.room + j) 0 ≡ get_or l.initial.tree (l.room + j) 0;
}

abbrev pub decreases-loop-node : goal.decreases-loop-node
decreases-loop-node l = l.node
