use Rattle.std.proofs.Common.{◌≡◌, ℕ}
use Rattle.mw_model.proofs.mw_facts.Merged.{merged}
use Rattle.mw_lane.proofs.Marks.{mark}
use Rattle.mw_lane.proofs.lanes_8.U8Lanes.threshold_block.Given as goal

abbrev pub invariant-loop-i : goal.invariant-loop-i
invariant-loop-i l = l.out ≡ merged (λ (_ s : ℕ). mark l.k s) l.i l.initial.out l.src
