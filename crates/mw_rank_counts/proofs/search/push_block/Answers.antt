use Rattle.std.proofs.Common.{ℕ, arith}
use Rattle.mw_model.specs.PlanSteps.{ranked}
use Rattle.mw_rank_counts.specs.Counting.{levels_on}
use Rattle.mw_rank_counts.proofs.Seeking.{block_gained}
use Rattle.mw_rank_counts.proofs.search.push_block.Goals as goal

pub returns-clause-row : goal.returns-clause-row
returns-clause-row g c =
    block_gained g.P.Pixel.level g.P.Pixel.TOP (λ (i : ℕ). ranked c.args.search.k (levels_on g.P.Pixel.level g.P.Pixel.TOP c.args.samples.now c.args.places.now i)) c.args.skip c.find.new.found c.args.out.now.items c.extend_from_slice.new.self.items
    (omega arith) c.requires.part c.find.ensures.found c.in_ok-extend_from_slice.ensures.items
