use Rattle.std.proofs.Common.{◌≡◌, ℕ, ◌<◌, length}
use Rattle.mw_rank_numbers.specs.LevelSets.{bit_in}
use Rattle.mw_rank_numbers.specs.Numbers.{level_in_part}
use Rattle.mw_rank_numbers.proofs.numbering.mark_part.Given as goal

abbrev pub invariant-loop-j : goal.invariant-loop-j
invariant-loop-j g l = record {
  size : length l.words ≡ 1024;
  marked : (i k : ℕ) → i < l.part.width → k < l.j → bit_in l.words (level_in_part g.P.Pixel.level g.P.Pixel.TOP l.window l.part i k) ≡ 1;
  lowest : bit_in l.words 0 ≡ 1;
}
