use Rattle.std.proofs.Common.{ℕ, ◌*◌, ◌<◌}
use Rattle.mw_pool_passes.specs.Blocks.{IsOnceAt}
use Rattle.mw_pool_passes.proofs.blocks.each_once.Given as goal

abbrev pub invariant-loop-block : goal.invariant-loop-block
invariant-loop-block l = (place : ℕ) → place < l.block * 4096 → IsOnceAt l.core.log l.passes place
