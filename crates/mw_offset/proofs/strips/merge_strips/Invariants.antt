use Rattle.std.proofs.Common.{◌+◌, ◌-◌, fold, flat_map}
use Rattle.mw_model.specs.Rasters.{seen_under}
use Rattle.mw_model.specs.Windows.{seen_at}
use Rattle.mw_element_runs.specs.Runs.{run_offsets}
use Rattle.mw_offset.proofs.StripRows.{StripsDone}
use Rattle.mw_offset.proofs.strips.merge_strips.Given as goal

abbrev pub invariant-strips : goal.invariant-strips
invariant-strips g l =
    StripsDone (λ x j. fold g.E.Extremum.merge l.neutral (seen_under (seen_at l.window) (flat_map run_offsets l.runs) (l.tile.x + x) (l.tile.y + j))) l.neutral l.tile.width l.tile.height l.y l.out

abbrev pub decreases-strips : goal.decreases-strips
decreases-strips g l = l.tile.height - l.y
