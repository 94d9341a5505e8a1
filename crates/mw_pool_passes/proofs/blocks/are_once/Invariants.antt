use Rattle.std.proofs.Common.{ℕ, ◌+◌, ◌<◌}
use Rattle.mw_pool_passes.specs.Blocks.{IsOnceAt}
use Rattle.mw_pool_passes.proofs.blocks.are_once.Given as goal

abbrev pub invariant-loop-k : goal.invariant-loop-k
invariant-loop-k l = (j : ℕ) → j < l.k → IsOnceAt l.core.log l.passes (l.base + j)
