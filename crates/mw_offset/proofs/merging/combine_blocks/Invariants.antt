use Rattle.std.proofs.Common.{◌-◌, ◌+◌, fold, length}
use Rattle.mw_offset.specs.MergedAt.{merge_from}
use Rattle.mw_offset.proofs.Parts.{PartsDone}
use Rattle.mw_offset.proofs.merging.combine_blocks.Given as goal

abbrev pub invariant-by_block : goal.invariant-by_block
invariant-by_block g l = PartsDone (λ d q best. fold (merge_from g.E.Extremum.merge l.cells d (l.from + q)) best l.places) l.at l.fn.out l.out

abbrev pub decreases-by_block : goal.decreases-by_block
decreases-by_block g l = length l.fn.out - l.at
