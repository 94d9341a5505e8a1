use Rattle.std.proofs.Common.{◌≡◌, ℕ, ◌++◌, map, take, get_or}
use Rattle.mw_rank_numbers.proofs.numbering.push_levels.Given as goal

abbrev pub invariant-loop-number : goal.invariant-loop-number
invariant-loop-number g l = l.out.items ≡ l.initial.out.items ++ map (λ (n : ℕ). get_or l.levels n g.P.Pixel.TOP) (take l.number-index l.numbers)
