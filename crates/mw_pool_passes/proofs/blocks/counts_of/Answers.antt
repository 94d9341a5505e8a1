use Rattle.mw_pool_passes.proofs.blocks.counts_of.Goals as goal

pub loop-pass-init : goal.loop-pass-init
loop-pass-init c = record { size = c.no_counts-counts.ensures.size; each = c.no_counts-counts.ensures.each }
