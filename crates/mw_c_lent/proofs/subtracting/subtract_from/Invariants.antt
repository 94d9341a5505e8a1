use Rattle.std.proofs.Common.{◌≡◌, ◌-◌, ◌≤◌, length}
use Rattle.mw_model.proofs.mw_facts.Merged.{merged}
use Rattle.mw_c_lent.proofs.subtracting.subtract_from.Given as goal

abbrev pub invariant-by_one : goal.invariant-by_one
invariant-by_one g l = record {
  within : l.at ≤ length l.row;
  so_far : l.row ≡ merged (λ a b. g.P.Lanes.difference b a) l.at l.initial.row l.other;
}

abbrev pub decreases-by_one : goal.decreases-by_one
decreases-by_one g l = length l.initial.row - l.at
