use Rattle.std.proofs.Common.{◌≡◌, ℕ, ◌+◌, ◌<◌, ◌≤◌, get_or}
use Rattle.mw_core_sums.specs.Trees.{IsTree}
use Rattle.mw_core_sums.proofs.tree.wider.Given as goal

abbrev pub invariant-loop-place : goal.invariant-loop-place
invariant-loop-place l = record {
  tree : IsTree l.made.items l.more;
  same : (j : ℕ) → j < l.place → get_or l.made.items (l.more + j) 0 ≡ get_or l.tree (l.room + j) 0;
  rest : (j : ℕ) → l.place ≤ j → j < l.more → get_or l.made.items (l.more + j) 0 ≡ 0;
}
