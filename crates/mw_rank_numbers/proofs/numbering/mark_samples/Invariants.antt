use Rattle.std.proofs.Common.{◌≡◌, ℕ, ◌<◌, length, get_or}
use Rattle.mw_rank_numbers.specs.LevelSets.{bit_in}
use Rattle.mw_rank_numbers.proofs.numbering.mark_samples.Given as goal

abbrev pub invariant-loop-sample : goal.invariant-loop-sample
invariant-loop-sample g l = record {
  size : length l.words ≡ 1024;
  marked : (i : ℕ) → i < l.sample-index → bit_in l.words (g.P.Pixel.level (get_or l.samples i g.P.Pixel.TOP)) ≡ 1;
  kept : (v : ℕ) → bit_in l.initial.words v ≡ 1 → bit_in l.words v ≡ 1;
}
