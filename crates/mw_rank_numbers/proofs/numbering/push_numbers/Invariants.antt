use Rattle.std.proofs.Common.{◌≡◌, ℕ, ◌<◌, length, get_or}
use Rattle.mw_rank.specs.Ranks.{GainsRow}
use Rattle.mw_rank_numbers.specs.LevelSets.{bit_in, below_in, IsBack}
use Rattle.mw_rank_numbers.proofs.numbering.push_numbers.Given as goal

abbrev pub invariant-loop-sample : goal.invariant-loop-sample
invariant-loop-sample g l = record {
  size : length l.levels ≡ length l.initial.levels;
  numbers : GainsRow (λ (n : ℕ). n) (λ i. below_in l.order.words.now (g.P.Pixel.level (get_or l.samples i g.P.Pixel.TOP))) l.sample-index l.initial.numbers.items l.numbers.items;
  back : (i : ℕ) → i < l.sample-index → IsBack g.P.Pixel.level l.order.words.now l.levels (g.P.Pixel.level (get_or l.samples i g.P.Pixel.TOP));
  kept : (v : ℕ) → bit_in l.order.words.now v ≡ 1 → IsBack g.P.Pixel.level l.order.words.now l.initial.levels v → IsBack g.P.Pixel.level l.order.words.now l.levels v;
}
