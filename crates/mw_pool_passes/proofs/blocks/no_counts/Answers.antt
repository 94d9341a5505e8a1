use Rattle.std.proofs.lemmas.List.{get_or-replicate}
use Rattle.mw_pool_passes.proofs.blocks.no_counts.Goals as goal

pub returns-clause-each : goal.returns-clause-each
returns-clause-each c = λ k within. get_or-replicate 4096 k 0 0 within
