use Rattle.mw_core.proofs.CostLemmas.{told_add, told_mul, told_times}
use Rattle.mw_core.proofs.costs.list_bytes.Goals as goal

pub returns : goal.returns
returns c =
    let pairs = told_mul _ _ _ _ _ c.tiles_on-tiles.ensures c.steps_of-steps.ensures c.saturating_mul-pairs.ensures in
    let tasks = told_times _ _ _ _ pairs c.saturating_mul-tasks.ensures in
    let lists = told_times _ _ _ _ c.steps_of-steps.ensures c.saturating_mul-lists.ensures in
    told_add _ _ _ _ _ tasks lists c.saturating_add.ensures
