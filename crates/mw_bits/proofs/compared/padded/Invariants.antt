use Rattle.std.proofs.Common.{◌≡◌, ℕ, ◌<◌, length, map, get_or}
use Rattle.mw_bits.proofs.compared.padded.Given as goal

abbrev pub invariant-loop-i : goal.invariant-loop-i
invariant-loop-i g l = record {
  size : length l.levels ≡ 64;
  same : (j : ℕ) → j < l.i → get_or l.levels j 0 ≡ get_or (map g.P.Pixel.level l.samples) j 0;
}
