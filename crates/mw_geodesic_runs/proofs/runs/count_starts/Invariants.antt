use Rattle.std.proofs.Common.{◌≡◌, ◌*◌, ◌≤◌}
use Rattle.mw_pixel.specs.mw_pixel_words.Packed.{bit_of}
use Rattle.mw_geodesic_runs.specs.Runs.{tally, left_of, begin_at}
use Rattle.mw_geodesic_runs.proofs.runs.count_starts.Given as goal

abbrev pub invariant-loop-k : goal.invariant-loop-k
invariant-loop-k l = record {
  count : l.count ≡ tally (begin_at (bit_of l.words)) (64 * l.k);
  last : l.last ≡ left_of (bit_of l.words) (64 * l.k);
  few : l.count ≤ 64 * l.k;
}
