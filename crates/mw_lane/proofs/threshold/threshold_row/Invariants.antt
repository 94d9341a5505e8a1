use Rattle.std.proofs.Common.{◌≡◌, ℕ, ◌-◌, ◌≤◌, length}
use Rattle.std.specs.Prelude.{nat_le, if◌then◌else◌}
use Rattle.mw_model.proofs.mw_facts.Merged.{merged}
use Rattle.mw_lane.proofs.threshold.threshold_row.Given as goal

abbrev pub invariant-by_block : goal.invariant-by_block
invariant-by_block g l = record {
  within : l.at ≤ length l.src;
  so_far : l.out ≡ merged (λ (_ : ℕ) (s : g.row.P.Denot). if nat_le l.k (g.P.Pixel.level s) then 1 else 0) l.at l.initial.out l.src;
}

abbrev pub decreases-by_block : goal.decreases-by_block
decreases-by_block g l = length l.src - l.at

abbrev pub invariant-by_one : goal.invariant-by_one
invariant-by_one g l = record {
  within : l.at ≤ length l.src;
  so_far : l.out ≡ merged (λ (_ : ℕ) (s : g.row.P.Denot). if nat_le l.k (g.P.Pixel.level s) then 1 else 0) l.at l.fn.out l.src;
}

abbrev pub decreases-by_one : goal.decreases-by_one
decreases-by_one g l = length l.src - l.at
