use Rattle.std.proofs.Common.{◌≡◌, ℕ, ◌<◌, false, slice_index_or}
use Rattle.std.specs.List.{list_any}
use Rattle.mw_model.specs.Tasks.{flag, is_step, nothing_planned}
use Rattle.mw_c_direct.proofs.spent.is_wanted.Given as goal

abbrev pub invariant-loop-i : goal.invariant-loop-i
invariant-loop-i l = record {
  unread : (j : ℕ) → j < l.i → flag l.made j ≡ false → list_any (is_step l.k) (slice_index_or l.plan j nothing_planned).sources ≡ false;
}
