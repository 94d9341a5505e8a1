use Rattle.std.proofs.Common.{refl, arith}
use Rattle.std.proofs.lemmas.Option.{slice_get_within}
use Rattle.mw_pool_passes.proofs.AuditLemmas.{block-more}
use Rattle.mw_pool_passes.proofs.blocks.each_once.Goals as goal

pub loop-block-preserved : goal.loop-block-preserved
loop-block-preserved c = block-more c.args.core.now.log c.args.passes.now c.loop-block.block c.loop-block.invariant (c.are_once.ensures.0 c.if-not-are_once.false)

pub returns : goal.returns
returns c = (
  λ t place q r is.
      let within = slice_get_within c.args.core.now.log place _ is in
      let past = c.loop-block-test.false in
      let size = c.log_len.ensures in
      c.loop-block.invariant place (omega arith) q r is,
  λ all. refl,
)
