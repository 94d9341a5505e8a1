use Rattle.mw_rank.specs.Ranks.{GainsRow}
use Rattle.mw_rank_counts.proofs.counting.push_lowest.Given as goal

abbrev pub invariant-loop-i : goal.invariant-loop-i
invariant-loop-i g l = GainsRow g.P.Pixel.level (λ i. 0) l._i l.initial.out.items l.out.items
