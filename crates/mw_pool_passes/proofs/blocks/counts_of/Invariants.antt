use Rattle.std.proofs.Common.{take}
use Rattle.mw_model.specs.Receipts.{count_at}
use Rattle.mw_pool_passes.specs.Blocks.{IsTally}
use Rattle.mw_pool_passes.proofs.blocks.counts_of.Given as goal

abbrev pub invariant-loop-pass : goal.invariant-loop-pass
invariant-loop-pass l = IsTally l.counts l.base (count_at (take l.pass-index l.passes))
