use Rattle.std.proofs.Common.{◌≡◌, ℕ, ◌<◌, vec_len, get_or}
use Rattle.mw_model.specs.Tasks.{nothing_planned}
use Rattle.mw_ready.specs.Boards.{no_need}
use Rattle.mw_ready.specs.Work.{IsNeedOf}
use Rattle.mw_core_planes.proofs.needs.needs_of.Given as goal

abbrev pub invariant-loop-k : goal.invariant-loop-k
invariant-loop-k l = record {
  size : vec_len l.needs ≡ l.k;
  each : (j : ℕ) → j < l.k → IsNeedOf (get_or l.needs.items j no_need) (get_or l.plan j nothing_planned);
}
