use Rattle.std.proofs.Common.{◌≡◌, ℕ, ◌<◌, ◌≤◌, length, get_or}
use Rattle.mw_bits_rows.proofs.packing.pack_block.Given as goal

abbrev pub invariant-loop-i : goal.invariant-loop-i
invariant-loop-i l = record {
  size : length l.bytes ≡ 64;
  same : (k : ℕ) → k < l.i → get_or l.bytes k 0 ≡ get_or l.pixels k 0;
  small : (k : ℕ) → k < l.i → get_or l.bytes k 0 ≤ 1;
}
