use Rattle.std.proofs.Common.{◌≡◌, ℕ, ◌+◌, ◌*◌, ◌<◌, ◌≤◌}
use Rattle.std.specs.Prelude.{if◌then◌else◌}
use Rattle.mw_pixel.specs.mw_pixel_words.Packed.{bit_of}
use Rattle.mw_geodesic_runs.proofs.scanning.next_place.Given as goal

abbrev pub invariant-loop-k : goal.invariant-loop-k
invariant-loop-k l = record {
  low : l.low < 64;
  from : l.from ≤ 64 * l.k + l.low;
  none : (x : ℕ) → l.from ≤ x → x < 64 * l.k + l.low → bit_of l.words x ≡ (if l.wanted then 0 else 1);
}
