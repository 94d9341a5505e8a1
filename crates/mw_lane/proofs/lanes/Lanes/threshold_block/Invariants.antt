use Rattle.std.proofs.Common.{◌≡◌, ℕ}
use Rattle.std.specs.Prelude.{nat_le, if◌then◌else◌}
use Rattle.mw_model.proofs.mw_facts.Merged.{merged}
use Rattle.mw_lane.proofs.lanes.Lanes.threshold_block.Given as goal

abbrev pub invariant-loop-i : goal.invariant-loop-i
invariant-loop-i g l = l.out ≡ merged (λ (_ : ℕ) (s : g.row.Self.Denot). if nat_le l.k (g.Self.Pixel.level s) then 1 else 0) l.i l.initial.out l.src
