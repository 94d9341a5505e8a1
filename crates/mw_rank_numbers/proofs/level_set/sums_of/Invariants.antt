use Rattle.std.proofs.Common.{◌≡◌, ℕ, ◌*◌, ◌<◌, ◌≤◌, length, get_or}
use Rattle.mw_rank_numbers.specs.LevelSets.{below_in}
use Rattle.mw_rank_numbers.proofs.level_set.sums_of.Given as goal

abbrev pub invariant-loop-word : goal.invariant-loop-word
invariant-loop-word l = record {
  size : length l.before.items ≡ l.word-index;
  before : (i : ℕ) → i < l.word-index → get_or l.before.items i 0 ≡ below_in l.words (64 * i);
  count : l.count ≡ below_in l.words (64 * l.word-index);
  few : l.count ≤ 64 * l.word-index;
}
