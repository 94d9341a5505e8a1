use Rattle.std.proofs.Common.{◌≡◌, ◌*◌, ◌≤◌, take}
use Rattle.mw_bits_rows.specs.Rows.{bits_in}
use Rattle.mw_bits_rows.proofs.counting.count_bits.Given as goal

abbrev pub invariant-loop-word : goal.invariant-loop-word
invariant-loop-word l = record {
  so_far : l.count ≡ bits_in (take l.word-index l.words);
  few : l.count ≤ 64 * l.word-index;
}
