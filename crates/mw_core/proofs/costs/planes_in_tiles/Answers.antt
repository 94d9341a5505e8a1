use Rattle.mw_core.proofs.CostLemmas.{told_times}
use Rattle.mw_core.proofs.costs.planes_in_tiles.Goals as goal

pub returns : goal.returns
returns c = told_times _ _ _ _ c.plane_in_tiles.ensures c.saturating_mul.ensures
