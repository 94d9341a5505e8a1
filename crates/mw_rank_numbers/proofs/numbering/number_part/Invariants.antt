use Rattle.std.proofs.Common.{◌≡◌, ℕ, ◌<◌, length}
use Rattle.mw_rank.specs.Ranks.{HasRows}
use Rattle.mw_rank_numbers.specs.LevelSets.{below_in, IsBack}
use Rattle.mw_rank_numbers.specs.Numbers.{level_in_part}
use Rattle.mw_rank_numbers.proofs.numbering.number_part.Given as goal

abbrev pub invariant-loop-j : goal.invariant-loop-j
invariant-loop-j g l = record {
  size : length l.levels ≡ length l.initial.levels;
  numbers : HasRows (λ (n : ℕ). n) (λ i k. below_in l.order.words.now (level_in_part g.P.Pixel.level g.P.Pixel.TOP l.window l.part i k)) l.part.width l.j l.numbers.items;
  back : (i k : ℕ) → i < l.part.width → k < l.j → IsBack g.P.Pixel.level l.order.words.now l.levels (level_in_part g.P.Pixel.level g.P.Pixel.TOP l.window l.part i k);
  zero : IsBack g.P.Pixel.level l.order.words.now l.levels 0;
}
